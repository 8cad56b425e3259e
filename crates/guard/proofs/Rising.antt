-- Votes that go up are all signed.
use Prim.Native.Nat.{ℕ, suc, ◌<◌, suc-le-suc, zero-le}
use native.Mathlib.Omega.{arith}
use mathlib.Core.Path.{◌≡◌, refl, sym, ap, ◌∙◌, subst}
use mathlib.Core.List.{List, [], ◌∷◌}
use lib.ListN.{length}
use Rattle.model.specs.Answer.{answer, row_of}
use Rattle.model.proofs.Refusals.{refusal_small}
use Rattle.guard.specs.Signing.{fresh_guard, guard_rows, IsSigning}
use Rattle.guard.specs.Calls.{Request, Calls, none, call, if_signed, signed_in, request_at}
use Rattle.guard.specs.Safe.{RisingSigned}
use Rattle.guard.specs.declared.Guard.{Guard}
use Rattle.guard.specs.Signing.{SignAnswer}
use Rattle.std.specs.Prelude.{Ok, Err}
use Rattle.guard.proofs.Rows.{passes}
use Rattle.guard.proofs.Safe.{After, Passes, last_of, left_signed, Signings, end, next}

-- votes that climb, go up one after the other, and come after a record
rising : (g : Guard) (votes : List Request)
    → ((i : ℕ) → i < length votes → Passes g (request_at votes i))
    → ((i j : ℕ) → i < j → j < length votes → After (last_of (request_at votes i)) (request_at votes j))
    → Signings g votes
rising g [] passes rise = end
rising g (r ∷ rs) passes rise =
    next (passes 0 (suc-le-suc zero-le))
    (rising (last_of r) rs
    (λ i h. record {
      climbs = (passes (suc i) (suc-le-suc h)).climbs;
      after = rise 0 (suc i) (suc-le-suc zero-le)
          (suc-le-suc h);
    })
    (λ i j l h. rise (suc i) (suc j) (suc-le-suc l) (suc-le-suc h)))

-- rows 65 to 67 pass such a vote
passes_signed : (g : Guard) (r : Request) → Passes g r → guard_rows g r.source r.target ≡ answer tt
passes_signed g r p = passes g r.source r.target p.climbs p.after.target p.after.source

signed_all : (g left : Guard) (rs : List Request) (answers : List SignAnswer) → Calls g rs answers left
    → Signings g rs
    → signed_in rs answers ≡ rs
unfolding signed_in if_signed row_of
signed_all g left rs answers none end = refl
signed_all g left rs answers (call {next = after} {r = r} {a = a} {rs = later} {answers = more} one calls) (next p
    rest) =
    go a one (signed_all after left later more calls)
  where
    go : (a : SignAnswer) → IsSigning g r.source r.target a after → (Signings after later → signed_in later more
        ≡ later)
        → if_signed a r (signed_in later more) ≡ r ∷ later
    go (Ok u) one ih =
        ap (λ (votes : List Request). r ∷ votes)
        (ih (subst (λ (h : Guard). Signings h later) (sym (left_signed g after r one)) rest))
    go (Err n) one ih =
        absurd (omega (arith, (refusal_small n).0, ap row_of (one.answered ∙ passes_signed g r p)))

pub rising_signed : RisingSigned
rising_signed left rs answers calls safe =
    signed_all fresh_guard left rs answers calls
    (rising fresh_guard rs
    (λ i h. record {
      climbs = safe.climb i h;
      after = record {
        source = λ u. absurd (u refl);
        target = λ u. absurd (u
            refl);
      };
    })
    (λ i j l h. record { source = λ u. safe.sources_never_fall i j l h; target = λ u. safe.targets_rise i j l h }))
