-- What the turns write is the report of the log that has come: each call is one of those that `InPieces` speaks of.
use Prim.Native.Nat.{ℕ, ◌≤◌, ◌<◌}
use native.Mathlib.Omega.{arith}
use mathlib.Core.Path.{◌≡◌, refl, sym, ap, ap₂, ◌∙◌, subst₂}
use mathlib.Core.List.{List, [], ◌∷◌, ◌++◌, append_assoc, append-nil, flat_map}
use mathlib.Core.Logic.{◌⊎◌, inl, inr, ⊎_elim}
use mathlib.Core.Bool.{Bool, true, false, cond, not, ◌&&◌, ◌||◌}
use borrow.Author.Tests.{leb-true, ltb-true, ltb-false}
use lib.Dec.{ltb}
use lib.ListN.{length, take, drop, take-append-drop}
use lib.Seq.{length-take-le, take-take}
use Rattle.model.specs.Answer.{Answer, refused, answer}
use Rattle.model.specs.Bytes.{AreBytes}
use Rattle.model.specs.Log.{header}
use Rattle.model.specs.Report.{report}
use Rattle.state.specs.declared.Witness.{Witness}
use Rattle.state.proofs.Started.{header-long}
use Rattle.feeding.specs.Feed.{Paused, wants, full, out_of_numbers, ended, refused_by, Feeding, paused_at, line_room, record_room, headed, open_call, feed_call, end_call}
use Rattle.pieces.specs.Pieces.{Piece, onward, in_want?, fed_text, last_pause, end_pause}
use Rattle.pieces.proofs.Pieces.{in_pieces}
use Rattle.buffered.specs.Hold.{ready?, IsFilled}
use Rattle.turns.specs.Turns.{Starts, fate_of, Refilled}
use Rattle.turns.specs.declared.Fate.{Fate}
use Rattle.turns.specs.declared.Fate.TheVariants.{Open, Whole, Ended, Failed}
use Rattle.turns.specs.declared.Turn.{Turn}
use Rattle.stream.specs.Reads.{Turned, Reached, at-start, one_more, WritesReport}
use Rattle.steps.specs.Turns.{call_of, at_hand, call_at, fate_at, Called}

-- ---- what follows a pause

-- where reading goes on, so does the report
goes_on : (last : Bool) (p : Paused) → fate_of last p ≡ Open → {A : Type 0} (none further : A) → onward p none further ≡ further
unfolding onward
goes_on last wants e none further = refl
goes_on last full e none further = refl
goes_on last out_of_numbers e none further = let z : ◌≡◌ {A = ℕ} 0 1 = cc in absurd (omega arith)
goes_on last ended e none further = let z : ◌≡◌ {A = ℕ} 0 1 = cc in absurd (omega arith)
goes_on last (refused_by n) e none further = let z : ◌≡◌ {A = ℕ} 0 1 = cc in absurd (omega arith)

by_whole : (last : Bool) (p : Paused) → fate_of last p ≡ Whole → p ≡ wants
by_whole last wants e = refl
by_whole last full e = let z : ◌≡◌ {A = ℕ} 0 1 = cc in absurd (omega arith)
by_whole last out_of_numbers e = let z : ◌≡◌ {A = ℕ} 0 1 = cc in absurd (omega arith)
by_whole last ended e = let z : ◌≡◌ {A = ℕ} 0 1 = cc in absurd (omega arith)
by_whole last (refused_by n) e = let z : ◌≡◌ {A = ℕ} 0 1 = cc in absurd (omega arith)

by-ended : (last : Bool) (p : Paused) → fate_of last p ≡ Ended → p ≡ ended
by-ended true wants e = let z : ◌≡◌ {A = ℕ} 0 1 = cc in absurd (omega arith)
by-ended false wants e = let z : ◌≡◌ {A = ℕ} 0 1 = cc in absurd (omega arith)
by-ended last full e = let z : ◌≡◌ {A = ℕ} 0 1 = cc in absurd (omega arith)
by-ended last out_of_numbers e = let z : ◌≡◌ {A = ℕ} 0 1 = cc in absurd (omega arith)
by-ended last ended e = refl
by-ended last (refused_by n) e = let z : ◌≡◌ {A = ℕ} 0 1 = cc in absurd (omega arith)

not_whole : (p : Paused) → fate_of false p ≡ Whole → ⊥
not_whole p e = let z : ◌≡◌ {A = ℕ} 0 1 = cc (sym (ap (fate_of false) (by_whole false p e)) ∙ e) in absurd (omega arith)

-- ---- calls of `feed` that went on

-- What comes of pieces after these, from the state before them, is what comes of those from the state that these left.
record Went (w : Witness) (k : ℕ) (s : List ℕ) (ps : List Piece) (fed : List ℕ) (w' : Witness) (k' : ℕ) (s' : List ℕ) : Type 0 where
  text : (r : ℕ) (qs : List Piece) → fed_text r w k s (ps ++ qs) ≡ fed ++ fed_text r w' k' s' qs
  last : (why : Paused) (q : Piece) (qs : List Piece) → last_pause why w k s (ps ++ q ∷ qs) ≡ last_pause why w' k' s' (q ∷ qs)
  end : (r : ℕ) (qs : List Piece) → end_pause r w k s (ps ++ qs) ≡ end_pause r w' k' s' qs

-- the same state, otherwise spelled
as_left : {w : Witness} {k : ℕ} {s : List ℕ} {ps : List Piece} {fed : List ℕ} {w' v : Witness} {k' j : ℕ} {s' : List ℕ} → Went w k s ps fed w' k' s' → v ≡ w' → j ≡ k' → Went w k s ps fed v j s'
as_left {w} {k} {s} {ps} {fed} {s' = s'} went e f = subst₂ (λ (x : Witness) (y : ℕ). Went w k s ps fed x y s') (sym e) (sym f) went

nothing_yet : (w : Witness) (k : ℕ) (s : List ℕ) → Went w k s [] [] w k s
nothing_yet w k s = record { text = λ r qs. refl; last = λ why q qs. refl; end = λ r qs. refl }

module _ {w : Witness} {k : ℕ} {s : List ℕ} {ps : List Piece} {fed : List ℕ} {w' : Witness} {k' : ℕ} {s' : List ℕ} (went : Went w k s ps fed w' k' s') (p : Piece) where
  abbrev next : Feeding
  next = feed_call p.room w' k' (s' ++ p.bytes)

  another : (last : Bool) → fate_of last next.paused ≡ Open → Went w k s (ps ++ p ∷ []) (fed ++ next.text) next.witness next.records (drop next.passed (s' ++ p.bytes))
  unfolding fed_text last_pause end_pause
  another last e =
      record {
        text = λ r qs.
            ap (fed_text r w k s) (append_assoc ps (p ∷ []) qs) ∙ went.text r (p ∷ qs) ∙ ap (λ (x : List ℕ). fed ++ (next.text ++ x)) (goes_on last next.paused e [] _) ∙ sym (append_assoc fed next.text _);
        last = λ why q qs. ap (last_pause why w k s) (append_assoc ps (p ∷ []) (q ∷ qs)) ∙ went.last why p (q ∷ qs) ∙ goes_on last next.paused e next.paused _;
        end = λ r qs. ap (end_pause r w k s) (append_assoc ps (p ∷ []) qs) ∙ went.end r (p ∷ qs) ∙ goes_on last next.paused e next.paused _;
      }

all_more : (ps : List Piece) (p : Piece) → flat_map (λ p. p.bytes) (ps ++ p ∷ []) ≡ flat_map (λ p. p.bytes) ps ++ p.bytes
unfolding flat_map
all_more [] p = append-nil p.bytes
all_more (q ∷ ps) p = ap (λ (l : List ℕ). q.bytes ++ l) (all_more ps p) ∙ sym (append_assoc q.bytes (flat_map (λ p. p.bytes) ps) p.bytes)

-- ---- the header

-- a call of `open` that goes on wrote nothing, and where it passed over bytes there was a header
module _ (last : Bool) (room : ℕ) (w : Witness) (log : List ℕ) where
  open_silent : fate_of false (open_call last room w log).paused ≡ Open → (open_call last room w log).text ≡ []
  unfolding open_call headed
  open_silent = go (ltb (length log) 37 && not last) (ltb room line_room) (header log)
    where
      go : (short no_room : Bool) (h : Answer (List ℕ)) → fate_of false (cond short (paused_at [] wants w 0) (cond no_room (paused_at [] full w 0) (headed w h))).paused ≡ Open
          → (cond short (paused_at [] wants w 0) (cond no_room (paused_at [] full w 0) (headed w h))).text ≡ []
      go true no_room h e = refl
      go false true h e = refl
      go false false (refused n) e = let z : ◌≡◌ {A = ℕ} 0 1 = cc in absurd (omega arith)
      go false false (answer name) e = refl

  open_headed : 0 < (open_call last room w log).passed → 37 ≤ length log
  unfolding open_call headed
  open_headed = go (ltb (length log) 37 && not last) (ltb room line_room) (header log) refl
    where
      go : (short no_room : Bool) (h : Answer (List ℕ)) → header log ≡ h → 0 < (cond short (paused_at [] wants w 0) (cond no_room (paused_at [] full w 0) (headed w h))).passed → 37 ≤ length log
      go true no_room h e some = absurd (omega arith)
      go false true h e some = absurd (omega arith)
      go false false (refused n) e some = absurd (omega arith)
      go false false (answer name) e some = header-long log name e

ready-heads : (at_end : Bool) (s : List ℕ) → ready? false at_end s ≡ true → (37 ≤ length s) ⊎ (at_end ≡ true)
unfolding ready?
ready-heads true s e = inr refl
ready-heads false s e = inl (leb-true 37 (length s) e)

-- ---- where reading stands

module _ (room : ℕ) (log text : List ℕ) (t : Turn) (input : List ℕ) where
  -- no header yet: all that has come is at hand
  record Waits : Type 0 where
    begun : t.begun ≡ false
    hand : at_hand t input ≡ log
    silent : text ≡ []

  -- The header was in the first bytes; calls of `feed` on the pieces went on, and some bytes have come since the last of them.
  record Goes : Type 0 where
    begun : t.begun ≡ true
    last : Bool
    witness : Witness
    first : List ℕ
    pieces : List Piece
    fed : List ℕ
    left : List ℕ
    bytes : List ℕ
    long : 37 ≤ length first
    came : log ≡ (first ++ flat_map (λ p. p.bytes) pieces) ++ bytes
    hand : at_hand t input ≡ left ++ bytes
    opens : fate_of false (open_call last room witness first).paused ≡ Open
    wrote : text ≡ (open_call last room witness first).text ++ fed
    went :
        Went
        (open_call last room witness first).witness
        (open_call last room witness first).records
        (drop (open_call last room witness first).passed first)
        pieces
        fed
        t.witness
        t.records
        left

  record Stands : Type 0 where
    inside : t.have ≤ length input
    going : t.fate ≡ Open → Waits ⊎ Goes
    ended_so : t.fate ≡ Ended → AreBytes log → text ≡ report log
    whole-so : (r : ℕ) → t.fate ≡ Whole → AreBytes log → in_want? (end_call r t.witness t.records t.have).paused ≡ false → text ++ (end_call r t.witness t.records t.have).text ≡ report log

-- nothing was read yet
starts : (room : ℕ) (t : Turn) (input : List ℕ) → Starts t → Stands room [] [] t input
starts room t input is =
    record {
      inside = omega (arith, is.have);
      going = λ e. inl (record { begun = is.begun; hand = ap (λ (n : ℕ). take n input) is.have; silent = refl });
      ended_so = λ e. let z : ◌≡◌ {A = ℕ} 0 1 = cc (sym is.fate ∙ e) in absurd (omega arith);
      whole-so = λ r e. let z : ◌≡◌ {A = ℕ} 0 1 = cc (sym is.fate ∙ e) in absurd (omega arith);
    }

-- ---- a read

-- it adds to the bytes at hand
hand-more : (t r : Turn) (input after : List ℕ) → IsFilled t.have input r.have after → at_hand r after ≡ at_hand t input ++ drop t.have (at_hand r after)
hand-more t r input after is =
    sym (take-append-drop t.have (at_hand r after))
    ∙ ap (λ (l : List ℕ). l ++ drop t.have (at_hand r after)) (take-take t.have r.have after is.more ∙ is.kept)

module _ (room : ℕ) {log text log' text' : List ℕ} {t r : Turn} {input after : List ℕ} (is : Refilled t input r after) (came : log' ≡ log ++ drop t.have (at_hand r after)) (wrote : text' ≡ text) where
  still-waits : Waits room log text t input → Waits room log' text' r after
  still-waits w =
      record {
        begun = is.begun ∙ w.begun;
        hand = hand-more t r input after is.filled ∙ ap (λ (l : List ℕ). l ++ drop t.have (at_hand r after)) w.hand ∙ sym came;
        silent = wrote ∙ w.silent;
      }

  still-goes : Goes room log text t input → Goes room log' text' r after
  still-goes g =
      let new = drop t.have (at_hand r after) in
      record {
        begun = is.begun ∙ g.begun;
        last = g.last;
        witness = g.witness;
        first = g.first;
        pieces = g.pieces;
        fed = g.fed;
        left = g.left;
        bytes = g.bytes ++ new;
        long = g.long;
        came = came ∙ ap (λ (l : List ℕ). l ++ new) g.came ∙ append_assoc (g.first ++ flat_map (λ p. p.bytes) g.pieces) g.bytes new;
        hand = hand-more t r input after is.filled ∙ ap (λ (l : List ℕ). l ++ new) g.hand ∙ append_assoc g.left g.bytes new;
        opens = g.opens;
        wrote = wrote ∙ g.wrote;
        went = as_left g.went is.witness is.records;
      }

  read-stands : (t.fate ≡ Open → Waits room log text t input ⊎ Goes room log text t input) → t.fate ≡ Open → Stands room log' text' r after
  read-stands so open-still =
      record {
        inside = is.filled.inside;
        going = λ e. ⊎_elim (λ w. inl (still-waits w)) (λ g. inr (still-goes g)) (so open-still);
        ended_so = λ e. ⊎_elim (λ f. let z : ◌≡◌ {A = ℕ} 0 1 = cc (sym f ∙ e) in absurd (omega arith)) (λ f. let z : ◌≡◌ {A = ℕ} 0 1 = cc (sym f ∙ e) in absurd (omega arith)) is.fate;
        whole-so = λ n e. ⊎_elim (λ f. let z : ◌≡◌ {A = ℕ} 0 1 = cc (sym f ∙ e) in absurd (omega arith)) (λ f. let z : ◌≡◌ {A = ℕ} 0 1 = cc (sym f ∙ e) in absurd (omega arith)) is.fate;
      }

-- ---- a call

-- what a call leaves, as another wording of the same
module _ (t : Turn) (input : List ℕ) (room : ℕ) where
  by_open : t.begun ≡ false → {log : List ℕ} → at_hand t input ≡ log → call_at t input room ≡ open_call t.at_end room t.witness log
  unfolding call_of
  by_open e hand = ap (λ (b : Bool). cond b (feed_call room t.witness t.records (at_hand t input)) (open_call t.at_end room t.witness (at_hand t input))) e ∙ ap (open_call t.at_end room t.witness) hand

  by_feed : t.begun ≡ true → {s : List ℕ} → at_hand t input ≡ s → call_at t input room ≡ feed_call room t.witness t.records s
  unfolding call_of
  by_feed e hand = ap (λ (b : Bool). cond b (feed_call room t.witness t.records (at_hand t input)) (open_call t.at_end room t.witness (at_hand t input))) e ∙ ap (feed_call room t.witness t.records) hand

-- on the log's first bytes
module _
    (room : ℕ)
    (roomy : record_room ≤ room)
    {log text : List ℕ}
    {t r : Turn}
    {input after : List ℕ}
    (waits : Waits room log text t input)
    (is-ready : ready? t.begun t.at_end (at_hand t input) ≡ true)
    (is : Called t input (call_at t input room) r after)
  where
    abbrev g : Feeding
    g = open_call t.at_end room t.witness log

    same : call_at t input room ≡ g
    same = by_open t input room waits.begun waits.hand

    fate-is : fate_at t input room ≡ fate_of false g.paused
    fate-is = ap₂ (λ (b : Bool) (f : Feeding). fate_of (b && t.at_end) f.paused) waits.begun same

    hand-is : at_hand r after ≡ drop g.passed log
    hand-is = is.left ∙ ap₂ (λ (f : Feeding) (l : List ℕ). drop f.passed l) same waits.hand

    wrote-is : text ++ (call_at t input room).text ≡ g.text
    wrote-is = ap₂ (λ (l : List ℕ) (f : Feeding). l ++ f.text) waits.silent same

    begun-is : r.begun ≡ ltb 0 g.passed
    begun-is = is.begun ∙ ap₂ (λ (b : Bool) (f : Feeding). b || ltb 0 f.passed) waits.begun same

    opened-on : (b : Bool) → ltb 0 g.passed ≡ b → fate_of false g.paused ≡ Open → Waits room log (text ++ (call_at t input room).text) r after ⊎ Goes room log (text ++ (call_at t input room).text) r after
    unfolding flat_map
    opened-on true some e =
        inr
        (record {
          begun = begun-is ∙ some;
          last = t.at_end;
          witness = t.witness;
          first = log;
          pieces = [];
          fed = [];
          left = drop g.passed log;
          bytes = [];
          long = open_headed t.at_end room t.witness log (ltb-true 0 g.passed some);
          came = sym (append-nil log) ∙ sym (append-nil (log ++ []));
          hand = hand-is ∙ sym (append-nil (drop g.passed log));
          opens = e;
          wrote = wrote-is ∙ sym (append-nil g.text);
          went = as_left (nothing_yet g.witness g.records (drop g.passed log)) (is.witness ∙ ap (λ (f : Feeding). f.witness) same) (is.records ∙ ap (λ (f : Feeding). f.records) same);
        })
    opened-on false none e =
        let zero-passed : g.passed ≡ 0 = omega (arith, ltb-false 0 g.passed none) in
        inl
        (record {
          begun = begun-is ∙ none;
          hand = hand-is ∙ ap (λ (n : ℕ). drop n log) zero-passed;
          silent = wrote-is ∙ open_silent t.at_end room t.witness log e;
        })

    -- it stops the log
    opened-ends : fate_of false g.paused ≡ Ended → AreBytes log → text ++ (call_at t input room).text ≡ report log
    unfolding onward in_want? flat_map
    opened-ends e bytes =
        let stops : g.paused ≡ ended = by-ended false g.paused e in
        let heads : (37 ≤ length log) ⊎ (t.at_end ≡ true) = ready-heads t.at_end log (ap₂ (λ (b : Bool) (l : List ℕ). ready? b t.at_end l) (sym waits.begun) (sym waits.hand) ∙ is-ready) in
        wrote-is
        ∙ sym (append-nil g.text)
        ∙ ap (λ (p : Paused). g.text ++ onward p [] (fed_text 0 g.witness g.records (drop g.passed log) [])) (sym stops)
        ∙ in_pieces log bytes 0 t.witness t.at_end (record { room = room; bytes = log }) [] (sym (append-nil log))
        (⊎_elim (λ l. inl l) (λ l. inr (l, refl)) heads) (omega (arith, roomy))
        (ap (λ (p : Paused). in_want? (onward p p (last_pause full g.witness g.records (drop g.passed log) []))) stops, ap (λ (p : Paused). in_want? (onward p p (end_pause 0 g.witness g.records (drop g.passed log) []))) stops)

-- on the records of a piece
module _
    (room : ℕ)
    (roomy : record_room ≤ room)
    {log text : List ℕ}
    {t r : Turn}
    {input after : List ℕ}
    (goes : Goes room log text t input)
    (is : Called t input (call_at t input room) r after)
    (inside : r.have ≤ length after)
  where
    abbrev o : Feeding
    o = open_call goes.last room goes.witness goes.first

    abbrev p : Piece
    p = record { room = room; bytes = goes.bytes }

    abbrev f : Feeding
    f = feed_call room t.witness t.records (goes.left ++ goes.bytes)

    abbrev rest : List ℕ
    rest = drop f.passed (goes.left ++ goes.bytes)

    same_feed : call_at t input room ≡ f
    same_feed = by_feed t input room goes.begun goes.hand

    fed-fate : fate_at t input room ≡ fate_of t.at_end f.paused
    fed-fate = ap₂ (λ (b : Bool) (x : Feeding). fate_of (b && t.at_end) x.paused) goes.begun same_feed

    fed-hand : at_hand r after ≡ rest
    fed-hand = is.left ∙ ap₂ (λ (x : Feeding) (l : List ℕ). drop x.passed l) same_feed goes.hand

    fed-witness : r.witness ≡ f.witness
    fed-witness = is.witness ∙ ap (λ (x : Feeding). x.witness) same_feed

    fed-records : r.records ≡ f.records
    fed-records = is.records ∙ ap (λ (x : Feeding). x.records) same_feed

    fed-came : log ≡ goes.first ++ flat_map (λ q. q.bytes) (goes.pieces ++ p ∷ [])
    fed-came =
        goes.came
        ∙ append_assoc goes.first (flat_map (λ q. q.bytes) goes.pieces) goes.bytes
        ∙ ap (λ (l : List ℕ). goes.first ++ l) (sym (all_more goes.pieces p))

    fed-on : fate_of t.at_end f.paused ≡ Open → Goes room log (text ++ (call_at t input room).text) r after
    fed-on e =
        record {
          begun = is.begun ∙ ap₂ (λ (b : Bool) (x : Feeding). b || ltb 0 x.passed) goes.begun same_feed;
          last = goes.last;
          witness = goes.witness;
          first = goes.first;
          pieces = goes.pieces ++ p ∷ [];
          fed = goes.fed ++ f.text;
          left = rest;
          bytes = [];
          long = goes.long;
          came = fed-came ∙ sym (append-nil (goes.first ++ flat_map (λ q. q.bytes) (goes.pieces ++ p ∷ [])));
          hand = fed-hand ∙ sym (append-nil rest);
          opens = goes.opens;
          wrote = ap₂ (λ (l : List ℕ) (x : Feeding). l ++ x.text) goes.wrote same_feed ∙ append_assoc o.text goes.fed f.text;
          went = as_left (another goes.went p t.at_end e) fed-witness fed-records;
        }

    -- were this call the last one
    report-is : (n : ℕ) → AreBytes log → in_want? (last_pause full t.witness t.records goes.left (p ∷ [])) ≡ false → in_want? (end_pause n t.witness t.records goes.left (p ∷ [])) ≡ false
        → text ++ fed_text n t.witness t.records goes.left (p ∷ []) ≡ report log
    report-is n bytes last-had end-had =
        ap (λ (l : List ℕ). l ++ fed_text n t.witness t.records goes.left (p ∷ [])) goes.wrote
        ∙ append_assoc o.text goes.fed (fed_text n t.witness t.records goes.left (p ∷ []))
        ∙ ap (λ (l : List ℕ). o.text ++ l) (sym (goes.went.text n (p ∷ [])) ∙ sym (goes_on false o.paused goes.opens [] _))
        ∙ in_pieces log bytes n goes.witness goes.last (record { room = room; bytes = goes.first }) (goes.pieces ++ p ∷ []) fed-came (inl goes.long) (omega (arith, roomy))
        (ap in_want? (goes_on false o.paused goes.opens o.paused _ ∙ goes.went.last full p []) ∙ last-had, ap in_want? (goes_on false o.paused goes.opens o.paused _ ∙ goes.went.end n (p ∷ [])) ∙ end-had)

    fed-ends : fate_of t.at_end f.paused ≡ Ended → AreBytes log → text ++ (call_at t input room).text ≡ report log
    unfolding fed_text last_pause end_pause onward in_want?
    fed-ends e bytes =
        let stops : f.paused ≡ ended = by-ended t.at_end f.paused e in
        ap (λ (x : Feeding). text ++ x.text) same_feed
        ∙ ap (λ (l : List ℕ). text ++ l) (sym (append-nil f.text) ∙ ap (λ (q : Paused). f.text ++ onward q [] (fed_text 0 f.witness f.records rest [])) (sym stops))
        ∙ report-is 0 bytes
        (ap (λ (q : Paused). in_want? (onward q q (last_pause f.paused f.witness f.records rest []))) stops)
        (ap (λ (q : Paused). in_want? (onward q q (end_pause 0 f.witness f.records rest []))) stops)

    same_end : (n : ℕ) → end_call n r.witness r.records r.have ≡ end_call n f.witness f.records (length rest)
    same_end n =
        let left : r.have ≡ length rest = sym (length-take-le r.have after inside) ∙ ap length fed-hand in
        ap₂ (λ (v : Witness) (k : ℕ). end_call n v k r.have) fed-witness fed-records ∙ ap (end_call n f.witness f.records) left

    fed-whole : (n : ℕ) → fate_of t.at_end f.paused ≡ Whole → AreBytes log → in_want? (end_call n r.witness r.records r.have).paused ≡ false
        → (text ++ (call_at t input room).text) ++ (end_call n r.witness r.records r.have).text ≡ report log
    unfolding fed_text last_pause end_pause onward in_want?
    fed-whole n e bytes had =
        let waits : f.paused ≡ wants = by_whole t.at_end f.paused e in
        ap₂ (λ (x y : Feeding). (text ++ x.text) ++ y.text) same_feed (same_end n)
        ∙ append_assoc text f.text (end_call n f.witness f.records (length rest)).text
        ∙ ap (λ (q : Paused). text ++ (f.text ++ onward q [] (end_call n f.witness f.records (length rest)).text)) (sym waits)
        ∙ report-is n bytes (ap (λ (q : Paused). in_want? (onward q q q)) waits)
        (ap (λ (q : Paused). in_want? (onward q q (end_call n f.witness f.records (length rest)).paused)) waits ∙ ap (λ (x : Feeding). in_want? x.paused) (sym (same_end n)) ∙ had)

-- a fate that is no failure is the call's
module _ {r y : Fate} (is : (r ≡ y) ⊎ (r ≡ Failed)) where
  if_open : r ≡ Open → y ≡ Open
  if_open e = ⊎_elim (λ f. sym f ∙ e) (λ f. let z : ◌≡◌ {A = ℕ} 0 1 = cc (sym e ∙ f) in absurd (omega arith)) is

  if-ended : r ≡ Ended → y ≡ Ended
  if-ended e = ⊎_elim (λ f. sym f ∙ e) (λ f. let z : ◌≡◌ {A = ℕ} 0 1 = cc (sym e ∙ f) in absurd (omega arith)) is

  if_whole : r ≡ Whole → y ≡ Whole
  if_whole e = ⊎_elim (λ f. sym f ∙ e) (λ f. let z : ◌≡◌ {A = ℕ} 0 1 = cc (sym e ∙ f) in absurd (omega arith)) is

module _
    (room : ℕ)
    (roomy : record_room ≤ room)
    {log text : List ℕ}
    {t r : Turn}
    {input after : List ℕ}
    (is-ready : ready? t.begun t.at_end (at_hand t input) ≡ true)
    (is : Called t input (call_at t input room) r after)
    (fates : (r.fate ≡ fate_at t input room) ⊎ (r.fate ≡ Failed))
    (inside : r.have ≤ length after)
  where
    call-stands : Waits room log text t input ⊎ Goes room log text t input → Stands room log (text ++ (call_at t input room).text) r after
    call-stands (inl w) =
        let fate = fate-is room roomy w is-ready is in
        record {
          inside = inside;
          going = λ e. opened-on room roomy w is-ready is (ltb 0 (g room roomy w is-ready is).passed) refl (sym fate ∙ if_open fates e);
          ended_so = λ e. opened-ends room roomy w is-ready is (sym fate ∙ if-ended fates e);
          whole-so = λ n e. absurd (not_whole (g room roomy w is-ready is).paused (sym fate ∙ if_whole fates e));
        }
    call-stands (inr v) =
        let fate = fed-fate room roomy v is inside in
        record {
          inside = inside;
          going = λ e. inr (fed-on room roomy v is inside (sym fate ∙ if_open fates e));
          ended_so = λ e. fed-ends room roomy v is inside (sym fate ∙ if-ended fates e);
          whole-so = λ n e. fed-whole room roomy v is inside n (sym fate ∙ if_whole fates e);
        }

-- ---- turn after turn

turn-stands : (room : ℕ) → record_room ≤ room → {log text log' text' : List ℕ} {t r : Turn} {input after : List ℕ} → Stands room log text t input → Turned room log text t input log' text' r after → Stands room log' text' r after
turn-stands room roomy {log} {text} {log'} {text'} {t} {r} {input} {after} stands turn = go (ready? t.begun t.at_end (at_hand t input)) refl
  where
    go : (b : Bool) → ready? t.begun t.at_end (at_hand t input) ≡ b → Stands room log' text' r after
    go true e =
        let called = turn.stepped.called e in
        subst₂ (λ (l m : List ℕ). Stands room l m r after) (sym (turn.came ∙ ap (λ (b : Bool). cond b log (log ++ drop t.have (at_hand r after))) e)) (sym (turn.wrote ∙ ap (λ (b : Bool). cond b (text ++ (call_at t input room).text) text) e))
        (call-stands room roomy e called.0 called.1 turn.stepped.inside (stands.going turn.goes_on))
    go false e =
        read-stands room (turn.stepped.read e) (turn.came ∙ ap (λ (b : Bool). cond b log (log ++ drop t.have (at_hand r after))) e) (turn.wrote ∙ ap (λ (b : Bool). cond b (text ++ (call_at t input room).text) text) e) stands.going turn.goes_on

reached-stands : (room : ℕ) → record_room ≤ room → {log text : List ℕ} {t : Turn} {input : List ℕ} → Reached room log text t input → Stands room log text t input
reached-stands room roomy (at-start {t = t} {input = input} is) = starts room t input is
reached-stands room roomy (one_more before turn) = turn-stands room roomy (reached-stands room roomy before) turn

pub writes_report : WritesReport
writes_report room log text t input roomy bytes reached =
    let stands = reached-stands room roomy reached in
    ((λ e. stands.ended_so e bytes), (λ n e. stands.whole-so n e bytes))
