pub mod SetPlaces
