-- The empty witness of a right header holds the model's start.
use Prim.Native.Nat.{ℕ, zero, suc, ◌<◌, ◌≤◌, ◌^◌}
use native.Mathlib.Omega.{arith}
use mathlib.Core.Path.{◌≡◌, sym, ap, ◌∙◌, subst}
use mathlib.Core.List.{List, [], ◌∷◌}
use borrow.Author.Tests.{ltb-false}
use lib.ListN.{length, get_or, drop, replicate, length-replicate, length-take, length-drop}
use lib.Seq.{paste, length-paste}
use Rattle.model.specs.Answer.{answer}
use Rattle.model.specs.Bytes.{part}
use Rattle.model.specs.Lists.{tabulate}
use Rattle.model.specs.Log.{header}
use Rattle.model.specs.Model.{Model, start}
use Rattle.model.specs.Rule.{standard}
use Rattle.model.specs.WellFormed.{WellFormed}
use Rattle.model.proofs.Run.{start-good}
use Rattle.model.proofs.Answer.{row-passes}
use Rattle.state.specs.Sound.{Typed, Sound}
use Rattle.state.specs.State.{place, height, empty_witness, rule_of, model_of}
use Rattle.state.proofs.Store.{paste_new}

zeros : ℕ → List ℕ
zeros n = replicate n 0

zeros-long : (n : ℕ) → length (zeros n) ≡ n
unfolding zeros
zeros-long n = length-replicate n 0

zeros-low : (n i : ℕ) → get_or (zeros n) i 0 < 2 ^ 16
unfolding zeros
zeros-low zero i = omega arith
zeros-low (suc n) zero = omega arith
zeros-low (suc n) (suc i) = zeros-low n i

-- the root's name, in a table of zeros
root-name : (n : ℕ) (name : List ℕ) → 32 ≤ n → length name ≡ 32 → part 0 32 (paste (zeros n) 0 name 32) ≡ name
root-name n name h long = paste_new (zeros n) 0 name (omega (arith, zeros-long n)) long

root-table : (n : ℕ) (name : List ℕ) → 32 ≤ n → length name ≡ 32 → length (paste (zeros n) 0 name 32) ≡ n
root-table n name h long = length-paste (zeros n) 0 name 32 (omega (arith, zeros-long n)) (omega arith) ∙ zeros-long n

pub empty_model : (name : List ℕ) → length name ≡ 32 → model_of (empty_witness name) ≡ start name
unfolding model_of rule_of empty_witness start tabulate zeros
empty_model name long =
    λ i. record {
      rule = standard;
      members = [];
      checkpoints = record { name = root-name 16384 name (omega arith) long i; parent = 0; height = 0 } ∷ [];
      votes = [];
    }

pub empty_typed : (name : List ℕ) → length name ≡ 32 → Typed (empty_witness name)
unfolding empty_witness zeros
empty_typed name long =
    record {
      members = record { ids = zeros-long 128; bonds = zeros-long 128 };
      tree =
          record {
            names = root-table 16384 name (omega arith) long;
            parents = length-replicate 512 (place 0);
            heights = length-replicate 512 (height 0);
          };
      votes =
          record {
            voters = zeros-long 4096;
            sources = length-replicate 4096 (place 0);
            targets = length-replicate 4096 (place 0);
          };
      ids = zeros-low 128;
    }

pub empty_sound : (name : List ℕ) → length name ≡ 32 → Sound (empty_witness name)
empty_sound name long = record { typed = empty_typed name long; good = subst (λ (m : Model). WellFormed m) (sym (empty_model name long)) (start-good name) }

-- a right header is whole, and has a name of 32 bytes
pub header-long : (log name : List ℕ) → header log ≡ answer name → 37 ≤ length log
unfolding header
header-long log name e = ltb-false (length log) 37 (row-passes 1 _ _ name e).clear

pub header-name : (log name : List ℕ) → header log ≡ answer name → length name ≡ 32
unfolding header
header-name log name e =
    let r1 = row-passes 1 _ _ name e in
    let r2 = row-passes 2 _ _ name r1.rest in
    let r3 = row-passes 3 _ _ name r2.rest in
    let same : part 5 32 log ≡ name = cc r3.rest in
    sym (ap length same) ∙ length-take 32 (drop 5 log) ∙ omega (arith, length-drop 5 log, header-long log name e)
