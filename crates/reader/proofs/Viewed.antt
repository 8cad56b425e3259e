-- What the rows look at of a sound witness holds its model, and is as they need it.
use Prim.Native.Nat.{ℕ}
use native.Mathlib.Omega.{arith}
use mathlib.Core.Path.{◌≡◌, sym, ap, ◌∙◌, transport}
use lib.Dec.{eqb}
use lib.ListN.{length, take}
use lib.Seq.{length-take-le, take-take}
use Rattle.model.specs.Lists.{first_index}
use Rattle.search.specs.Chains.{Indexed}
use Rattle.search.specs.declared.Links.{Links}
use Rattle.tables.specs.Places.{Falling}
use Rattle.tables.proofs.Taken.{height-taken, falling-taken, ancestor-taken}
use Rattle.state.specs.Sound.{Sound}
use Rattle.state.specs.State.{model_of}
use Rattle.state.specs.Tables.{Held, Low}
use Rattle.state.specs.declared.Witness.{Witness}
use Rattle.state.proofs.Entries.{count-checkpoints}
use Rattle.state.proofs.Held.{all_held}
use Rattle.state.proofs.Sound.{few-checkpoints, few-votes, ids-long, falling, low-heights}
use Rattle.ballots.specs.Fit.{Fit, HeldIn}
use Rattle.ballots.specs.declared.view.View.{View}
use Rattle.reader.specs.Storing.{IsView, Searched}

module _ (w : Witness) (sound : Sound w) {links : Links} (so : Searched w links) where
  abbrev members : ℕ
  members = w.member_count

  abbrev count : ℕ
  count = w.checkpoint_count

  -- the fronts of the tables hold what the tables hold
  fronts-held : Held (model_of w) members count w.vote_count (take members w.ids) w.names (take count w.parents)
      (take count w.heights) links.numbers
  fronts-held =
      let whole = all_held w (ids-long w sound) so.votes in
      record {
        members-held = record {
          count = whole.members-held.count;
          index = λ id.
              whole.members-held.index id
              ∙ ap (first_index (λ x. eqb x id)) (sym (take-take members members w.ids (omega arith)));
        };
        names-held = whole.names-held;
        heights-held = record {
          height = λ i h. whole.heights-held.height i h ∙ sym (height-taken count w.heights i h);
        };
        ancestors_held = record {
          ancestor = λ a b. whole.ancestors_held.ancestor a b ∙ sym (ancestor-taken count w.parents a b);
        };
        keys_held = whole.keys_held;
      }

  fronts_low : Low count (take count w.heights)
  fronts_low i h = omega (arith, height-taken count w.heights i h, low-heights w sound i h)

  module _ {v : View} (is : IsView w v) where
    pub ids-number : length v.ids.now ≡ members
    ids-number = ap length is.ids ∙ length-take-le members w.ids (ids-long w sound)

    parents-number : length v.parents.now ≡ count
    parents-number =
        ap length is.parents
        ∙ length-take-le count w.parents (omega (arith, few-checkpoints w sound, sound.typed.tree.parents))

    heights-number : length v.heights.now ≡ count
    heights-number =
        ap length is.heights
        ∙ length-take-le count w.heights (omega (arith, few-checkpoints w sound, sound.typed.tree.heights))

    pub view-held : HeldIn (model_of w) v links
    view-held =
        transport
        (λ i.
        Held (model_of w) (sym ids-number i) (sym parents-number i) (sym is.votes i) (sym is.ids i) (sym is.names i)
        (sym is.parents i) (sym is.heights i) links.numbers)
        fronts-held

    pub view-fits : Fit v links
    view-fits = record {
      tree = record {
        rooted = omega (arith, parents-number, sound.good.tree.rooted, count-checkpoints w);
        linked = record {
          named = record {
            names-long =
                omega (arith, parents-number, ap length is.names, few-checkpoints w sound, sound.typed.tree.names);
            checkpoints-fit = omega (arith, parents-number, few-checkpoints w sound);
          };
          heights-long = heights-number ∙ sym parents-number;
          falling =
              transport (λ i. Falling (sym parents-number i) (sym is.parents i))
              (falling-taken count w.parents (falling w sound));
        };
        low = transport (λ i. Low (sym parents-number i) (sym is.heights i)) fronts_low;
      };
      votes = record {
        votes-fit = omega (arith, is.votes, few-votes w sound);
        indexed = transport (λ i. Indexed (sym is.votes i) links.numbers links.heads links.nexts) so.indexed;
      };
    }
