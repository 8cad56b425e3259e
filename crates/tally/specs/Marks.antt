-- What is known of the places, read at a place.
use Rattle.std.specs.Prelude.{ℕ, List, Bool, false, ◌&&◌, get_or}
use Rattle.tally.specs.declared.links.Mark.{Mark}

-- what is known of a place; nothing past the end
abbrev pub mark_at : List Mark → ℕ → Mark
mark_at marks p = get_or marks p (record { justified = false; finalizing = false })

abbrev pub justified_at : List Mark → ℕ → Bool
justified_at marks p = (mark_at marks p).justified

abbrev pub finalizing_at : List Mark → ℕ → Bool
finalizing_at marks p = (mark_at marks p).finalizing

-- the place is final
abbrev pub final_at : List Mark → ℕ → Bool
final_at marks p = justified_at marks p && finalizing_at marks p
