pub mod IsReplay
