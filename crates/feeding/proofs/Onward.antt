-- Reading on with the lines of what is refused: what was written and passed so far, and what reading on from here comes to, is
-- the whole.
use Prim.Native.Nat.{ℕ, zero, suc, ◌+◌, ◌*◌, ◌-◌, ◌<◌, ◌≤◌}
use native.Mathlib.Omega.{arith}
use mathlib.Core.Path.{◌≡◌, refl, sym, ap, ap₂, ◌∙◌, subst, transport}
use mathlib.Core.List.{List, [], ◌∷◌, ◌++◌, flat_map, append_assoc}
use mathlib.Core.Logic.{◌⊎◌, ⊎_elim}
use mathlib.Core.Bool.{Bool, true, false, cond, ◌||◌}
use borrow.Author.Tests.{eq-eqb, ne_eqb, eqb-false, le-ltb, ltb-false}
use lib.Dec.{eqb, ltb}
use lib.ListN.{length, take, drop, length-append, length-drop}
use lib.Seq.{take_at, drop-drop}
use Rattle.std.specs.Prelude.{Result, Ok, None, Some}
use Rattle.model.specs.declared.Refusal.{Refusal}
use Rattle.model.specs.Answer.{Answer}
use Rattle.model.specs.Bytes.{AreBytes}
use Rattle.model.specs.Change.{Told, Decision}
use Rattle.model.specs.Decide.{decide}
use Rattle.model.specs.Lists.{All, none, each}
use Rattle.model.specs.Log.{record_length}
use Rattle.model.specs.Report.{outcome_line, outcome_lines}
use Rattle.state.specs.Reading.{Brief, outcome_of, brief}
use Rattle.state.specs.State.{model_of, stored}
use Rattle.state.specs.declared.Passed.{Passed as Came}
use Rattle.state.specs.declared.Witness.{Witness}
use Rattle.state.specs.Sound.{Sound}
use Rattle.state.proofs.Kept.{reading-sound}
use Rattle.model.proofs.Bytes.{drop-bytes}
use Rattle.model.proofs.Lists.{all_append}
use Rattle.model.proofs.Readings.{whole_goes_on}
use Rattle.entries.specs.Entries.{rows_of, entries_of, entries}
use Rattle.reader.specs.Many.{Ended, ended_by, Many, read_many, end_of, ended_told, IsBatch}
use Rattle.reader.specs.declared.Batch.{Batch}
use Rattle.entries.proofs.Entries.{marked-length, entries-more}
use Rattle.reader.proofs.Made.{length-inside, while_passed, Stops, Ends, many-ends, not_both, some-told}
use Rattle.reader.proofs.Told.{told-rowed}
use Rattle.text.specs.Put.{Put}
use Rattle.text.proofs.Putting as Putting
use Rattle.feeding.specs.Feed.{Feeding, paused_at, ahead, record_room, last_number, spent, halted, feed_from, pause_of, IsFed}
use Rattle.feeding.specs.Rows.{entry_lines, beginning}
use Rattle.feeding.specs.declared.Fed.{Fed}
use Rattle.feeding.specs.declared.Pause.{Pause}
use Rattle.feeding.proofs.Rows.{Passed, line-fits, entry-lines, entries-begin, outcome-more}
use Rattle.feeding.proofs.Told.{halted-brief}

-- `whole` is what the call comes to; the text so far stands in the buffer, from 0 to `end`
pub record Sofar (whole : Feeding) (log : List ℕ) (at : ℕ) (before : List ℕ) (buf : List ℕ) (held : Witness) (k next end : ℕ) : Type 0 where
  pub text : List ℕ
  pub passed : ℕ
  pub fuel : ℕ
  pub sound : Sound held
  pub numbered : k ≤ last_number
  pub enough : length (drop next log) ≤ fuel
  pub reached : next ≡ at + passed
  pub put : Put before 0 text buf end
  pub more : whole ≡ ahead text passed (feed_from (suc fuel) (length before - end) held k (drop next log))

ne_zero : (n : ℕ) → (n ≡ 0 → ⊥) → 0 < n
ne_zero zero h = absurd (h refl)
ne_zero (suc n) h = omega arith

-- where the lines of a record may not fit, or no number is left, no record can be read on
spent-then : (room k : ℕ) → k ≤ last_number → (room < record_room) ⊎ (last_number ≤ k) → (ltb room record_room || eqb k last_number) ≡ true
spent-then room k few stops = go (ltb room record_room) refl
  where
    go : (short : Bool) → ltb room record_room ≡ short → (short || eqb k last_number) ≡ true
    go true s = refl
    go false s = eq-eqb k last_number (⊎_elim (λ no_room. absurd (omega (arith, no_room, ltb-false room record_room s))) (λ none. omega (arith, few, none)) stops)

-- at the start all is left
pub none_yet : (w : Witness) (k : ℕ) (log : List ℕ) (at : ℕ) (buf : List ℕ) → Sound w → k ≤ last_number
    → Sofar (feed_from (length (drop at log) + 1) (length buf) w k (drop at log)) log at buf buf w k at 0
none_yet w k log at buf sound few =
    let s = drop at log in
    let f = feed_from (suc (length s)) (length buf - 0) w k s in
    let one : length s + 1 ≡ suc (length s) = omega arith in
    let room : length buf ≡ length buf - 0 = omega arith in
    let sum : f.passed ≡ 0 + f.passed = omega arith in
    record {
      text = [];
      passed = 0;
      fuel = length s;
      sound = sound;
      numbered = few;
      enough = omega arith;
      reached = omega arith;
      put = Putting.none buf 0 (omega arith);
      more = ap₂ (λ (n r : ℕ). feed_from n r w k s) one room ∙ (λ i. record { text = f.text; paused = f.paused; passed = sum i; records = f.records; witness = f.witness });
    }

module _ {whole : Feeding} {log : List ℕ} {at : ℕ} {before buf : List ℕ} {held : Witness} {k next end : ℕ} (so : Sofar whole log at before buf held k next end) where
  abbrev left : List ℕ
  left = drop next log

  abbrev d : Decision
  d = decide (model_of held) left

  -- what a call that pauses here gives back
  paused-here : {f : Feeding} {r : Fed} {after : List ℕ} → feed_from (suc so.fuel) (length before - end) held k left ≡ f → IsFed f next end buf r after → IsFed whole at 0 before r after
  paused-here {f} {r} {after} e is =
      subst (λ (g : Feeding). IsFed g at 0 before r after) (sym (so.more ∙ ap (ahead so.text so.passed) e))
      (record {
        pause = is.pause;
        next = is.next ∙ omega (arith, so.reached);
        records = is.records;
        witness = is.witness;
        text = Putting.next so.put is.text;
      })

  -- the text so far ends within the buffer
  pub end-inside : end ≤ length buf
  end-inside = omega (arith, so.put.fits, so.put.past, Putting.kept so.put)

  -- the room that is left is the buffer's
  same-room : length before - end ≡ length buf - end
  same-room = ap (λ (n : ℕ). n - end) (sym (Putting.kept so.put))

  abbrev size : ℕ
  size = record_length left

  abbrev passing : Bool → Feeding
  passing b = cond b (halted d.told held k) (ahead (outcome_line k d.told) size (feed_from so.fuel (length before - end - length (outcome_line k d.told)) (stored held d) (k + 1) (drop size left)))

  abbrev branches : Bool → Feeding
  branches b = cond b (paused_at [] (spent (length before - end)) held k) (passing (eqb size 0))

  opened : (b : Bool) → (ltb (length buf - end) record_room || eqb k last_number) ≡ b → feed_from (suc so.fuel) (length before - end) held k left ≡ branches b
  unfolding feed_from
  opened b e = ap branches (ap (λ (n : ℕ). ltb n record_room || eqb k last_number) same-room ∙ e)

  -- no room, or no number
  pub spent-here : (why : Pause) → pause_of why ≡ spent (length buf - end) → (length buf - end < record_room) ⊎ (last_number ≤ k)
      → IsFed whole at 0 before (record { pause = Ok why; next = next; records = k; written = end; witness = held }) buf
  spent-here why says stops =
      paused-here (opened true (spent-then (length buf - end) k so.numbered stops))
      (record { pause = says ∙ ap spent (sym same-room); next = omega arith; records = refl; witness = refl; text = Putting.none buf end end-inside })

  module _ (room : record_room ≤ length buf - end) (number : k < last_number) where
    goes_further : (b : Bool) → eqb size 0 ≡ b → feed_from (suc so.fuel) (length before - end) held k left ≡ passing b
    goes_further b e = opened false (ap₂ ◌||◌ (le-ltb (length buf - end) record_room room) (ne_eqb k last_number (λ e. omega (arith, number, e)))) ∙ ap passing e

    -- no record can be passed
    halted-here : {f : Fed} {after : List ℕ} → size ≡ 0 → IsFed (halted d.told held k) next end buf f after → IsFed whole at 0 before f after
    halted-here stopped fed = paused-here (goes_further true (eq-eqb size 0 stopped)) fed

    -- a record is passed, and its line is written
    passed_here : AreBytes log → {buf' : List ℕ} {end' : ℕ} → (size ≡ 0 → ⊥) → Put buf end (outcome_line k d.told) buf' end'
        → Sofar whole log at before buf' (stored held d) (k + 1) (next + size) end'
    passed_here bytes {buf'} {end'} some line =
        let inside : size ≤ length left = length-inside left in
        let fuel : so.fuel ≡ suc (so.fuel - 1) = omega (arith, so.enough, inside, ne_zero size some) in
        let rest : length (drop (next + size) log) ≤ so.fuel - 1 = omega (arith, so.enough, inside, length-drop next log, length-drop (next + size) log, ne_zero size some) in
        let room-left : length before - end - length (outcome_line k d.told) ≡ length before - end' = omega (arith, line.past) in
        let x = feed_from (suc (so.fuel - 1)) (length before - end') (stored held d) (k + 1) (drop (next + size) log) in
        let sum : so.passed + (size + x.passed) ≡ so.passed + size + x.passed = omega arith in
        let after-it : feed_from so.fuel (length before - end - length (outcome_line k d.told)) (stored held d) (k + 1) (drop size left) ≡ x =
        (λ i. feed_from (fuel i) (room-left i) (stored held d) (k + 1) (drop-drop size next log i))
        in
        record {
          text = so.text ++ outcome_line k d.told;
          passed = so.passed + size;
          fuel = so.fuel - 1;
          sound = reading-sound held so.sound left (drop-bytes next log bytes);
          numbered = omega (arith, number);
          enough = rest;
          reached = omega (arith, so.reached);
          put = Putting.next so.put line;
          more =
              so.more
              ∙ ap (ahead so.text so.passed) (goes_further false (ne_eqb size 0 some) ∙ ap (ahead (outcome_line k d.told) size) after-it)
              ∙ (λ i. record { text = sym (append_assoc so.text (outcome_line k d.told) x.text) i; paused = x.paused; passed = sum i; records = x.records; witness = x.witness });
        }

-- ---- a batch: its lines are put into the buffer all at once, behind it

-- a text that fits can be put
put-text : (l : List ℕ) (at : ℕ) (t : List ℕ) → at + length t ≤ length l → Put l at t (take at l ++ t ++ drop (at + length t) l) (at + length t)
put-text l at t fits = record { fits = fits; past = refl; left = refl }

-- so many entries may be written: there is room for a line of each
pub record May (log buf : List ℕ) (k end n : ℕ) : Type 0 where
  pub bytes : AreBytes log
  pub room : 64 * n ≤ length buf - end
  pub number : k < last_number

module _ {whole : Feeding} {log : List ℕ} {at : ℕ} {before buf : List ℕ} {held : Witness} {k next end : ℕ} (so : Sofar whole log at before buf held k next end) {n : ℕ} (may : May log buf k end n) where
  -- the lines of what was told, as they will stand in the buffer
  record Batched (ts : List (Answer Told)) (v : Witness) (p : ℕ) : Type 0 where
    all : All Passed ts
    will : List ℕ
    past : ℕ
    lines : Put buf end (outcome_lines k ts) will past
    short : past ≤ end + 64 * length (entries ts)
    sofar : Sofar whole log at before will v (k + length ts) p past

  numbered_as : {i j p e : ℕ} {l : List ℕ} {v : Witness} → i ≡ j → Sofar whole log at before l v i p e → Sofar whole log at before l v j p e
  numbered_as {p = p} {e} {l} {v} same s = subst (λ (i : ℕ). Sofar whole log at before l v i p e) same s

  none-batched : Batched [] held next
  unfolding outcome_lines flat_map
  none-batched =
      let same : k ≡ k + 0 = omega arith in
      record {
        all = none;
        will = buf;
        past = end;
        lines = Putting.none buf end (end-inside so);
        short = omega arith;
        sofar = numbered_as same so;
      }

  one_more : (ts : List (Answer Told)) (v : Witness) (p : ℕ) → length ts < last_number - k → length (entries ts) + 128 ≤ n → eqb (record_length (drop p log)) 0 ≡ false → Batched ts v p
      → Batched (ts ++ (decide (model_of v) (drop p log)).told ∷ []) (stored v (decide (model_of v) (drop p log))) (p + record_length (drop p log))
  one_more ts v p few free some b =
      let t = (decide (model_of v) (drop p log)).told in
      let j = k + length ts in
      let number : j < last_number = omega (arith, few, so.numbered) in
      let fits : record_room ≤ length b.will - b.past = omega (arith, may.room, free, b.short, Putting.kept b.lines, end-inside so) in
      let ok : Passed t = record { rowed = told-rowed (model_of v) (drop p log); goes = whole_goes_on (model_of v) (drop p log) some } in
      let short = line-fits j t (omega (arith, number)) ok in
      let few-entries : length (entries_of t) ≤ 128 = omega (arith, marked-length (rows_of t), ok.rowed.few) in
      let put = put-text b.will b.past (outcome_line j t) (omega (arith, fits, short, few-entries)) in
      let long = length-append ts (t ∷ []) in
      let one : j + 1 ≡ k + length (ts ++ t ∷ []) = omega (arith, long) in
      record {
        all = all_append b.all (each ok none);
        will = _;
        past = _;
        lines = Putting.spelled (Putting.next b.lines put) (outcome-more k ts t);
        short = omega (arith, b.short, short, ap length (entries-more ts t), length-append (entries ts) (entries_of t));
        sofar = numbered_as one (passed_here b.sofar fits number may.bytes (eqb-false (record_length (drop p log)) 0 some) put);
      }

  abbrev m : Many
  m = read_many (last_number - k) n held log next

  batched : Batched m.passed m.witness m.next
  batched = while_passed log (last_number - k) n Batched one_more held next none-batched

  module _ {rows₀ rows : List ℕ} {r : Batch} (is : IsBatch m rows₀ r rows) where
    ends : Ends log (last_number - k) n m
    ends = many-ends log (last_number - k) n held next

    pub few-records : r.records ≤ last_number - k
    few-records = omega (arith, is.records, ends.few)

    pub few-entries : r.used ≤ n
    few-entries = omega (arith, is.used, ends.short)

    -- the entries are the front of a longer list, which stays as long
    pub rows_long : (others : List ℕ) → length rows₀ ≡ n → length (rows ++ others) ≡ n + length others
    rows_long others e =
        let written = entries m.passed in
        let unused = drop (length written) rows₀ in
        ap (λ (l : List ℕ). length (l ++ others)) is.rows
        ∙ length-append (written ++ unused) others
        ∙ omega (arith, length-append written unused, length-drop (length written) rows₀, ends.short, e)

    -- the entries that were written
    pub written_are : (others : List ℕ) → take r.used (rows ++ others) ≡ entries m.passed
    written_are others =
        let written = entries m.passed in
        let unused = drop (length written) rows₀ in
        ap₂ (λ (j : ℕ) (l : List ℕ). take j (l ++ others)) is.used is.rows
        ∙ ap (take (length written)) (append_assoc written unused others)
        ∙ take_at written (unused ++ others) (length written) refl

    -- each record that begins has a number
    pub numbers : (others : List ℕ) → beginning (take r.used (rows ++ others)) ≡ r.records
    numbers others = ap beginning (written_are others) ∙ entries-begin m.passed batched.all ∙ sym is.records

    -- the lines of those that were passed are put
    module _ (others : List ℕ) {buf' : List ℕ} {end' : ℕ} (lines : Put buf end (entry_lines k (take r.used (rows ++ others))) buf' end') where
      abbrev b : Batched m.passed m.witness m.next
      b = batched

      lines_are : entry_lines k (take r.used (rows ++ others)) ≡ outcome_lines k m.passed
      lines_are = ap (entry_lines k) (written_are others) ∙ entry-lines k m.passed b.all

      ends_there : b.past ≡ end'
      ends_there = b.lines.past ∙ ap (λ (l : List ℕ). end + length l) (sym lines_are) ∙ sym lines.past

      -- behind it, all is as before
      pub batch_here : Sofar whole log at before buf' r.witness (k + r.records) r.next end'
      batch_here =
          let stands = b.lines.left ∙ sym (Putting.spelled lines lines_are).left in
          transport (λ i. Sofar whole log at before (stands i) (sym is.witness i) (k + sym is.records i) (sym is.next i) (ends_there i)) b.sofar

      -- no more may be read: some were passed
      pub some-passed : 128 ≤ n → r.end ≡ None → 0 < r.records
      some-passed enough e =
          ⊎_elim
          (λ h. ⊎_elim (λ all. omega (arith, all, is.records, may.number)) (λ short. omega (arith, is.records, some-told m.passed (omega (arith, short, enough)))) h.1)
          (λ h. absurd (not_both (sym (ap end_of e) ∙ is.end ∙ h.why)))
          ends.here

      -- the next one cannot be passed
      module _ (o : Result Came Refusal) (stop : r.end ≡ Some o) where
        said : ended_by (outcome_of o) ≡ m.end
        said = sym (ap end_of stop) ∙ is.end

        stops : Stops log (last_number - k) n m
        stops = ⊎_elim (λ h. absurd (not_both (sym (said ∙ h.0)))) (λ h. h) ends.here

        pub room-left : record_room ≤ length buf' - end'
        room-left = omega (arith, may.room, stops.free, b.short, ends_there, Putting.kept lines, end-inside so)

        pub halted-last : {f : Fed} {after : List ℕ} → IsFed (halted (outcome_of o) r.witness (k + r.records)) r.next end' buf' f after → IsFed whole at 0 before f after
        halted-last {f} {after} fed =
            let d = decide (model_of r.witness) (drop r.next log) in
            let told-there : outcome_of o ≡ brief d.told =
            ap (λ (e : Ended). ended_told e (outcome_of o)) (said ∙ stops.why)
            ∙ ap₂ (λ (v : Witness) (p : ℕ). brief (decide (model_of v) (drop p log)).told) (sym is.witness) (sym is.next) in
            halted-here batch_here room-left (omega (arith, stops.may, is.records, so.numbered)) (ap (λ (p : ℕ). record_length (drop p log)) is.next ∙ stops.none)
            (subst (λ (g : Feeding). IsFed g r.next end' buf' f after)
            (ap (λ (a : Answer Brief). halted a r.witness (k + r.records)) told-there ∙ halted-brief r.witness (k + r.records) d.told) fed)
