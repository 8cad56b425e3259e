-- What the code stores is what the definitions say: a name's bytes are those of the log.
use Prim.Native.Nat.{ℕ, ◌+◌, ◌*◌}
use mathlib.Core.Path.{◌≡◌, sym, ap, ◌∙◌}
use mathlib.Core.List.{List, ◌++◌}
use native.Mathlib.Omega.{arith}
use lib.ListN.{take, drop, set, replicate}
use lib.Seq.{paste, take-take}
use Rattle.model.specs.Bytes.{part}
use Rattle.model.specs.declared.Height.{Height}
use Rattle.model.specs.declared.Place.{Place}
use Rattle.state.specs.State.{place, height, witness_of, with_tree_part, empty_witness, with_checkpoint}
use Rattle.state.specs.declared.Witness.{Witness}
use Rattle.state.proofs.Fields.{part_at}

-- 32 bytes pasted from the log, or from the name cut out of it
paste_name : (d : List ℕ) (k at i : ℕ) (log : List ℕ) → paste d k (drop (at + i) log) 32 ≡ paste d k (part i 32 (drop at log)) 32
paste_name d k at i log =
    ap (λ (t : List ℕ). take k d ++ t ++ drop (k + 32) d)
    (sym (take-take 32 32 (drop (at + i) log) (omega arith)) ∙ ap (take 32) (sym (part_at at i 32 log)))

-- the witness as the code leaves it, its table of names being `names`
abbrev with_name : Witness → List ℕ → Place → Height → Witness
with_name w names p h =
    let n = w.checkpoint_count in
    with_tree_part w (record { names = names; parents = set w.parents n p; heights = set w.heights n h; count = n + 1 })

pub checkpoint-stored : (w : Witness) (at : ℕ) (log : List ℕ) (p : Place) (h : Height) {names : List ℕ}
    → names ≡ paste w.names (w.checkpoint_count * 32) (drop (at + 1) log) 32
    → with_name w names p h ≡ with_checkpoint w (record { name = part 1 32 (drop at log); parent = p.0; height = h.0 })
unfolding with_checkpoint
checkpoint-stored w at log p h copied = ap (λ (t : List ℕ). with_name w t p h) (copied ∙ paste_name w.names (w.checkpoint_count * 32) at 1 log)

-- the empty witness, as the code makes it
abbrev made_with : List ℕ → Witness
made_with names =
    witness_of (record { ids = replicate 128 0; bonds = replicate 128 0; count = 0 })
    (record { names = names; parents = replicate 512 (place 0); heights = replicate 512 (height 0); count = 1 })
    (record { voters = replicate 4096 0; sources = replicate 4096 (place 0); targets = replicate 4096 (place 0); count = 0 })
    (record { p = 0; q = 0 })

pub empty-is : (log : List ℕ) {names : List ℕ} → names ≡ paste (replicate 16384 0) 0 (drop 5 log) 32 → made_with names ≡ empty_witness (part 5 32 log)
unfolding empty_witness
empty-is log e = ap made_with (e ∙ paste_name (replicate 16384 0) 0 0 5 log)
