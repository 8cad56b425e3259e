-- The charges of the members, one after another, by rising id.
use Prim.Native.Nat.{ℕ, ◌+◌, ◌<◌, ◌≤◌}
use native.Mathlib.Omega.{arith}
use native.Mathlib.Numerals.{add-one}
use mathlib.Core.Path.{◌≡◌, refl, sym, ap, ap₂, ◌∙◌}
use mathlib.Core.List.{List, [], ◌∷◌, ◌++◌, map, flat_map, append-nil}
use lib.ListN.{length, get_or, take, set}
use lib.Seq.{take-suc, take-suc-set, get_or-take, length-take-le}
use Rattle.model.specs.Evidence as Model
use Rattle.model.specs.Evidence.{charge_of}
use Rattle.evidence.specs.declared.Charge.{Charge}
use Rattle.model.specs.Lists.{All, none, each}
use Rattle.model.specs.Model.{Member, member_at}
use Rattle.model.proofs.Lists.{all_map}
use Rattle.state.specs.declared.Witness.{Witness}
use Rattle.state.specs.State.{model_of}
use Rattle.conduct.specs.declared.Breach.{Breach}
use Rattle.std.specs.Prelude.{Option}
use Rattle.evidence.specs.declared.Charges.{Charges}
use Rattle.conduct.specs.Held.{Ordered}
use Rattle.conduct.specs.Shown.{conduct_at, Shown}
use Rattle.conduct.proofs.Members.{ids-held}
use Rattle.evidence.specs.Listed.{charge_in, charges_in, charges_of, charges_at}
use Rattle.evidence.proofs.Bytes.{flat_snoc}

-- ---- one more charge

snoc : (xs : List Charge) (x : Charge) → charges_in (xs ++ x ∷ []) ≡ charges_in xs ++ charge_in x ∷ []
snoc [] x = refl
snoc (y ∷ xs) x = ap (λ (l : List Model.Charge). charge_in y ∷ l) (snoc xs x)

pub charge-more : (c : Charges) (x : Charge) → c.count < length c.list
    → charges_of (record { count = c.count + 1; list = set c.list c.count x }) ≡ charges_of c ++ charge_in x ∷ []
unfolding charges_of
charge-more c x h = rw (add-one, take-suc-set c.list c.count x h) (snoc (take c.count c.list) x)

-- what a member's conduct adds
pub adds_none : (c : Charges) (id : ℕ) {k : Model.Conduct} → k ≡ Model.clear → charges_of c ≡ charges_of c ++ charge_of id k
unfolding charge_of
adds_none c id e = sym (ap (λ (k : Model.Conduct). charges_of c ++ charge_of id k) e ∙ append-nil (charges_of c))

pub adds_one : (c : Charges) (id i j : ℕ) {k : Model.Conduct} {cs : List Model.Charge} → k ≡ Model.broken i j → cs ≡ charges_of c ++ record { id = id; earlier = i; later = j } ∷ [] → cs ≡ charges_of c ++ charge_of id k
unfolding charge_of
adds_one c id i j e so = so ∙ sym (ap (λ (k : Model.Conduct). charges_of c ++ charge_of id k) e)

-- ---- the members at the first k places

module _ (ids : List ℕ) (shown : List (Option Breach)) where
  pub listed-none : charges_at ids shown [] ≡ []
  unfolding charges_at flat_map
  listed-none = refl

  pub listed_more : (k : ℕ) (places : List ℕ) {before after : List Model.Charge} → k < length places
      → after ≡ before ++ charge_of (get_or ids (get_or places k 0) 0) (conduct_at shown (get_or places k 0))
      → before ≡ charges_at ids shown (take k places)
      → after ≡ charges_at ids shown (take (k + 1) places)
  unfolding charges_at
  listed_more k places h added so =
      let p = get_or places k 0 in
      added
      ∙ ap (λ (xs : List Model.Charge). xs ++ charge_of (get_or ids p 0) (conduct_at shown p)) so
      ∙ rw (add-one, take-suc places k 0 h) (sym (flat_snoc (λ q. charge_of (get_or ids q 0) (conduct_at shown q)) (take k places) p))

-- ---- of a witness

flat_same : (f : Member → List Model.Charge) (g : ℕ → List Model.Charge) (member : ℕ → Member) {ks : List ℕ} → All (λ k. f (member k) ≡ g k) ks → flat_map f (map member ks) ≡ flat_map g ks
unfolding flat_map
flat_same f g member none = refl
flat_same f g member (each e es) = ap₂ ◌++◌ e (flat_same f g member es)

-- slices of exactly the members that are held
pub listed-charges : (w : Witness) (fits : w.member_count ≤ length w.ids) (shown : List (Option Breach)) (places : List ℕ) {cs : List Model.Charge}
    → let ids = take w.member_count w.ids in
    Ordered ids (length ids) 0 places
    → Shown w shown
    → cs ≡ charges_at ids shown places
    → cs ≡ Model.charges (model_of w)
unfolding charges_at Model.charges
listed-charges w fits shown places o found listed =
    let n = w.member_count in
    let ids = take n w.ids in
    let long : length ids ≡ n = length-take-le n w.ids fits in
    let m = model_of w in
    let held = ids-held w fits in
    let charge : ℕ → List Model.Charge = λ id. charge_of id (Model.conduct m id) in
    let same : All (λ p. charge (member_at m.members p).id ≡ charge_of (get_or ids p 0) (conduct_at shown p)) places =
    all_map
    (λ p h.
    ap charge (held.id p h)
    ∙ ap (charge_of (get_or ids p 0)) (sym (found p (omega (arith, long)) ∙ ap (Model.conduct m) (sym (get_or-take n w.ids p 0 (omega (arith, long)))))))
    o.held in
    listed
    ∙ sym (flat_same (λ x. charge x.id) (λ p. charge_of (get_or ids p 0) (conduct_at shown p)) (member_at m.members) same)
    ∙ ap (flat_map (λ x. charge x.id)) (o.rising m.members held)
