-- The votes of a bundle, stored one after the other: what the loop over the member places keeps up.
use Prim.Native.Nat.{ℕ, zero, suc, ◌+◌, ◌<◌, ◌≤◌}
use native.Mathlib.Omega.{arith}
use mathlib.Core.Path.{◌≡◌, refl, sym, ap, ap₂, ◌∙◌, subst}
use mathlib.Core.List.{List, [], ◌∷◌, ◌++◌, map, flat_map, append_assoc, append-nil}
use mathlib.Core.Bool.{Bool, true, false, cond}
use borrow.Author.Tests.{eq-eqb, ne_eqb}
use borrow.Table.Elements.{map_app}
use lib.Dec.{eqb}
use lib.ListN.{length, drop, take, set, get_or, length-append, length-map, take-append-drop}
use lib.Seq.{length-take-le}
use Rattle.model.specs.Answer.{Answer, row_of}
use Rattle.model.specs.Bits.{bit_set, set_places}
use Rattle.model.specs.Change.{Change, Decision, one_vote, together}
use Rattle.model.specs.Decide.{bundle_ids}
use Rattle.model.specs.Lists.{concat_below}
use Rattle.model.specs.Model.{Model, Link, Member, member_at}
use Rattle.model.proofs.Fits.{fit-votes}
use Rattle.state.specs.Sound.{Typed, Sound}
use Rattle.state.specs.State.{model_of, store_all, stored}
use Rattle.state.specs.declared.Witness.{Witness}
use Rattle.state.proofs.Entries.{count-members, count-votes, member_is}
use Rattle.state.proofs.Kept.{Kept, changes-kept, store_both}
use Rattle.bits.proofs.SetPlaces.{set_below, one_more, none_more}
use Rattle.ballots.specs.Ballot.{cast_vote}
use Rattle.registry.specs.Decision.{cast_each}
use Rattle.rules.proofs.Bundled.{after_each, each_more, each_fits, each-members, each_number}
use Rattle.entries.specs.Entries.{later, marked, rows_of, entries_of, Written}
use Rattle.entries.proofs.Entries.{write_one, marked_more}
use Rattle.search.specs.declared.Links.{Links}
use Rattle.reader.specs.Storing.{Searched, bundle_cast}

module _ (w : Witness) (l : Answer Link) (bits : List ℕ) where
  -- the ids of the places below p whose bits are set, and what is decided on their votes
  abbrev pub ids_below : ℕ → List ℕ
  ids_below p = map (λ q. (member_at (model_of w).members q).id) (set_below bits p)

  abbrev pub votes_below : ℕ → List Decision
  votes_below p = cast_each (model_of w) l (ids_below p)

  abbrev pub rows_below : ℕ → List ℕ
  rows_below p = map row_of (map (λ (d : Decision). one_vote d.told) (votes_below p))

  -- the loop at place p: `before` are the bytes lent, `used` of them written before the bundle
  pub record Casting (before : List ℕ) (links : Links) (used p : ℕ) (rows : List ℕ) (held : Witness) (end : ℕ) : Type 0 where
    pub places : p ≤ 128
    pub stored_so_far : held ≡ stored w (together (votes_below p))
    pub written : Written (take used before ++ marked (rows_below p)) before rows end
    pub past : end ≡ used + length (set_below bits p)
    pub searched : Searched held links

same-zero : (end used n : ℕ) → end ≡ used + n → eqb end used ≡ eqb n 0
same-zero end used zero e = eq-eqb end used (omega (arith, e)) ∙ sym (eq-eqb 0 0 refl)
same-zero end used (suc n) e = ne_eqb end used (λ q. absurd (omega (arith, e, q))) ∙ sym (ne_eqb (suc n) 0 (λ q. absurd (omega (arith, q))))

-- one decision more, behind the others
changes-more : (ds : List Decision) (d : Decision) → (together (ds ++ d ∷ [])).changes ≡ (together ds).changes ++ d.changes
unfolding together flat_map
changes-more [] d = append-nil d.changes
changes-more (e ∷ ds) d = ap (λ (l : List Change). e.changes ++ l) (changes-more ds d) ∙ sym (append_assoc e.changes _ d.changes)

module _ {w : Witness} {l : Answer Link} {bits before : List ℕ} {links : Links} {used p : ℕ} {rows : List ℕ} {held : Witness} {end : ℕ}
    (sound : Sound w) (c : Casting w l bits before links used p rows held end) where
  abbrev m : Model
  m = model_of w

  abbrev ids : List ℕ
  ids = ids_below w l bits p

  kept : Kept w (together (votes_below w l bits p)).changes
  kept = changes-kept w sound.typed _ (each_fits m l ids)

  -- what is held now
  pub model_now : model_of held ≡ after_each m l ids
  model_now = ap model_of c.stored_so_far ∙ kept.model

  pub typed_now : Typed held
  typed_now = subst Typed (sym c.stored_so_far) kept.typed

  pub few_now : held.vote_count ≤ 4096
  few_now =
      omega (
        arith,
        count-votes held,
        ap (λ (n : Model). length n.votes) model_now,
        fit-votes m _ (each_fits m l ids) sound.good.votes-fit,
      )

  members_now : (model_of held).members ≡ m.members
  members_now = ap (λ (n : Model). n.members) model_now ∙ each-members m l ids

  -- the member at the place
  pub id_now : p < length m.members → get_or held.ids p 0 ≡ (member_at m.members p).id
  id_now inside =
      sym
      (ap (λ (ms : List Member). (member_at ms p).id) (sym members_now)
      ∙ ap (λ (x : Member). x.id) (member_is held p (omega (arith, count-members held, ap length members_now))))

  -- the next place's bit is not set
  pub skip : p < 128 → bit_set bits p ≡ false → Casting w l bits before links used (p + 1) rows held end
  skip inside unset =
      let same : set_below bits p ≡ set_below bits (p + 1) = sym (none_more bits p unset ∙ append-nil (set_below bits p)) in
      let over : List ℕ → List Decision = λ ps. cast_each m l (map (λ q. (member_at m.members q).id) ps) in
      record {
        places = omega arith;
        stored_so_far = c.stored_so_far ∙ ap (λ (ps : List ℕ). stored w (together (over ps))) same;
        written =
            subst
            (λ (ps : List ℕ). Written (take used before ++ marked (map row_of (map (λ (d : Decision). one_vote d.told) (over ps)))) before rows end)
            same c.written;
        past = c.past ∙ ap (λ (ps : List ℕ). used + length ps) same;
        searched = c.searched;
      }

  -- it is set: the vote is decided, its entry written, and what was decided stored
  module _ (set-bit : bit_set bits p ≡ true) (id : ℕ) (id-is : id ≡ (member_at m.members p).id) where
    abbrev d : Decision
    d = cast_vote (model_of held) l id

    votes-more : votes_below w l bits (p + 1) ≡ votes_below w l bits p ++ d ∷ []
    votes-more =
        let f : ℕ → ℕ = λ q. (member_at m.members q).id in
        ap (λ (ps : List ℕ). cast_each m l (map f ps)) (one_more bits p set-bit)
        ∙ ap (cast_each m l) (map_app f (set_below bits p) (p ∷ []))
        ∙ each_more m l ids (f p)
        ∙ ap₂ (λ (n : Model) (x : ℕ). votes_below w l bits p ++ cast_vote n l x ∷ []) (sym model_now) (sym id-is)

    rows_more : rows_below w l bits (p + 1) ≡ rows_below w l bits p ++ row_of (one_vote d.told) ∷ []
    rows_more =
        let f : Decision → Answer (Unit {0}) = λ x. one_vote x.told in
        ap (λ (ds : List Decision). map row_of (map f ds)) votes-more
        ∙ ap (map row_of) (map_app f (votes_below w l bits p) (d ∷ []))
        ∙ map_app row_of (map f (votes_below w l bits p)) (f d ∷ [])

    rows-number : length (rows_below w l bits p) ≡ length (set_below bits p)
    rows-number =
        length-map (map (λ (x : Decision). one_vote x.told) (votes_below w l bits p)) row_of
        ∙ each_number m l ids
        ∙ length-map (set_below bits p) (λ q. (member_at m.members q).id)

    pub take-vote : {held' : Witness} {links' : Links} {row x : ℕ} → p < 128 → end < length before
        → held' ≡ stored held d → Searched held' links'
        → row ≡ row_of (one_vote d.told) → x ≡ cond (eqb end used) row (later row)
        → Casting w l bits before links' used (p + 1) (set rows end x) held' (end + 1)
    take-vote {held'} {links'} {row} {x} inside room stored searched row_is x-is =
        let first : eqb end used ≡ eqb (length (rows_below w l bits p)) 0 =
        same-zero end used (length (rows_below w l bits p)) (c.past ∙ ap (λ (n : ℕ). used + n) (sym rows-number)) in
        let front = take used before in
        record {
          places = omega arith;
          stored_so_far =
              stored ∙ ap (λ (v : Witness). store_all v d.changes) c.stored_so_far
              ∙ sym (store_both w (together (votes_below w l bits p)).changes d.changes)
              ∙ ap (store_all w) (sym (changes-more (votes_below w l bits p) d) ∙ ap (λ (ds : List Decision). (together ds).changes) (sym votes-more));
          written =
              subst (λ (l : List ℕ). Written l before (set rows end x) (end + 1))
              (append_assoc front (marked (rows_below w l bits p)) (x ∷ [])
              ∙ ap (λ (l : List ℕ). front ++ l)
              (ap (λ (y : ℕ). marked (rows_below w l bits p) ++ y ∷ [])
              (x-is ∙ ap₂ (λ (b : Bool) (r : ℕ). cond b r (later r)) first row_is)
              ∙ sym (marked_more (rows_below w l bits p) (row_of (one_vote d.told)))
              ∙ ap marked (sym rows_more)))
              (write_one x c.written room);
          past = omega (arith, c.past, ap length (one_more bits p set-bit), length-append (set_below bits p) (p ∷ []));
          searched = searched;
        }

-- no place is passed yet
pub none-cast : (w : Witness) (l : Answer Link) (bits before : List ℕ) (links : Links) (used : ℕ) → used ≤ length before → Searched w links
    → Casting w l bits before links used 0 before w used
unfolding cast_each together flat_map store_all concat_below marked
none-cast w l bits before links used inside searched =
    let front = take used before in
    record {
      places = omega arith;
      stored_so_far = refl;
      written =
          record {
            count = sym (ap length (append-nil front) ∙ length-take-le used before inside);
            room = inside;
            bytes = sym (ap (λ (x : List ℕ). x ++ drop used before) (append-nil front) ∙ take-append-drop used before);
          };
      past = omega arith;
      searched = searched;
    }

-- all are: what is held is the bundle's, and its entries stand
pub record Cast (w : Witness) (l : Answer Link) (bits before : List ℕ) (links : Links) (used : ℕ) (rows : List ℕ)
    (held : Witness) (end : ℕ) : Type 0 where
  pub all-stored : held ≡ stored w (bundle_cast w l bits)
  pub searched : Searched held links
  pub all-written : Written (take used before ++ entries_of (bundle_cast w l bits).told) before rows end
  pub all_past : end ≡ used + length (set_places bits)

pub all-cast : {w : Witness} {l : Answer Link} {bits before : List ℕ} {links : Links} {used p : ℕ} {rows : List ℕ} {held : Witness} {end : ℕ}
    → Casting w l bits before links used p rows held end → 128 ≤ p → Cast w l bits before links used rows held end
unfolding bundle_ids set_places together rows_of
all-cast {w} {l} {bits} {before} {links} {used} {p} {rows} {held} {end} c past =
    let last : p ≡ 128 = omega (arith, c.places) in
    record {
      all-stored = c.stored_so_far ∙ ap (λ (q : ℕ). stored w (together (votes_below w l bits q))) last;
      searched = c.searched;
      all-written = subst (λ (q : ℕ). Written (take used before ++ marked (rows_below w l bits q)) before rows end) last c.written;
      all_past = c.past ∙ ap (λ (q : ℕ). used + length (set_below bits q)) last;
    }
