-- One call of gmv_*_read: what its words say of the answer. From any words whatever it uses at most the part, and a verdict takes at least one byte.
use Rattle.std.specs.Prelude.{Option, Some, None, Result, Ok, Err}
use mathlib.Core.Path.{◌≡◌, refl, sym, ap, ◌∙◌}
use mathlib.Core.List.{List, ◌++◌}
use mathlib.Core.Bool.{Bool, true, false, cond, ◌&&◌, true≢false}
use Prim.Native.Nat.{ℕ, zero, suc, ◌≤◌, ◌<◌}
use native.Mathlib.Omega.{arith}
use lib.ListN.{length, drop, length-append, length-drop}
use lib.Seq.{drop-append_seam}
use lib.Dec.{eqb, leb, ltb}
use borrow.Author.Tests.{le-leb, leb-true, ltb-true, eqb-true}
use Rattle.lists.specs.Bytes.{over}
use Rattle.lists.specs.Outcome.{Called, called}
use Rattle.lists.proofs.Tests.{and_left, and_right, cond_ind}
use Rattle.lists.proofs.Calls.{over-is}
use Rattle.settings.specs.Settings.{valid, capacity_of, data_offset_of}
use Rattle.settings.specs.declared.Settings.{Settings}
use Rattle.refusal.specs.declared.Accepted.{Accepted}
use Rattle.refusal.specs.declared.Refusal.{Refusal}
use Rattle.stream.specs.Stream.{judged}
use Rattle.stream.specs.Scan.{read_of}
use Rattle.block.specs.Content.{content_of}
use Rattle.stream.specs.declared.Reader.{Reader}
use Rattle.stream.specs.declared.Reading.{Reading}
use Rattle.stream.specs.declared.Found.{Found}
use Rattle.block_theorems.proofs.Calls.{call_most, call_goes, call_whole}
use Rattle.block_calls.specs.ReaderWords.{reader_words, decoded, verdict_words, pending_words}
use Rattle.block_calls.specs.Internal.{read_known}
use Rattle.block_calls.specs.ReadCalls.{read_answered, read_finished, read_decoded, read_call}
use Rattle.block_calls.proofs.ReadLaws.{read_enough}
use Rattle.call_theorems.specs.Reading.{shown, found_block, used_bytes, shown_by, new_verdict, Driven, driven, followed_by, part_calls}
use Rattle.call_theorems.proofs.Verdicts.{answer_gives, read_gives}

-- ---- words written over others
module _ (l ws : List ℕ) (h : length ws ≤ length l) where
  pub over-length : length (over l ws) ≡ length l
  over-length = ap length (over-is l ws h) ∙ length-append ws (drop (length ws) l) ∙ simp length-drop (omega arith)

  pub over_beyond : drop (length ws) (over l ws) ≡ drop (length ws) l
  over_beyond = ap (drop (length ws)) (over-is l ws h) ∙ drop-append_seam ws (drop (length ws) l)

-- the later words stand, where both are as many
pub over_again : (l ws zs : List ℕ) → length ws ≤ length l → length zs ≡ length ws → over (over l ws) zs ≡ over l zs
over_again l ws zs h e =
    over-is (over l ws) zs (rw (over-length l ws h, e) h)
    ∙ ap (λ (n : ℕ). zs ++ drop n (over l ws)) e
    ∙ ap (λ (t : List ℕ). zs ++ t) (over_beyond l ws h)
    ∙ ap (λ (n : ℕ). zs ++ drop n l) (sym e)
    ∙ sym (over-is l zs (rw e h))

-- ---- what a call that is done leaves of the memory c: the state r, the buffer b, n bytes used, and no other word changed
pub record Leaves (c : Called) (r : Reader) (b : List ℕ) (n : ℕ) (d : Called) : Type 0 where
  pub done : d.number ≡ 0
  pub state : d.state ≡ over c.state (reader_words r)
  pub buffer : d.buffer ≡ b
  pub used : used_bytes d ≡ n
  pub words : length d.report ≡ length c.report
  pub beyond : drop 8 d.report ≡ drop 8 c.report

module _ (g : Settings) (c : Called) (h : 8 ≤ length c.report) (r : Reader) (b : List ℕ) (n : ℕ) where
  abbrev answered : Result (Option Found) Refusal → Called
  answered a = read_answered g c.state c.report r b n a

  pub pending_leaves : Leaves c r b n (answered (Ok None))
  unfolding pending_words
  pending_leaves =
      record {
        done = refl;
        state = refl;
        buffer = refl;
        used = rw (over-is c.report (pending_words n) h);
        words = over-length c.report (pending_words n) h;
        beyond = over_beyond c.report (pending_words n) h;
      }

  pub pending_none : found_block (answered (Ok None)) ≡ false
  unfolding pending_words
  pending_none = rw (over-is c.report (pending_words n) h)

  module _ (s : ℕ) (v : Result Accepted Refusal) where
    pub found_leaves : Leaves c r b n (answered (Ok (Some (record { block_offset = s; verdict = v }))))
    unfolding verdict_words
    found_leaves =
        let ws = verdict_words s v (data_offset_of g) n in
        record {
          done = refl;
          state = refl;
          buffer = refl;
          used = rw (over-is c.report ws h);
          words = over-length c.report ws h;
          beyond = over_beyond c.report ws h;
        }

    pub found_one : found_block (answered (Ok (Some (record { block_offset = s; verdict = v })))) ≡ true
    unfolding verdict_words
    found_one = rw (over-is c.report (verdict_words s v (data_offset_of g) n) h)

  -- the data that the words name is that of the verdict
  words_show : (s : ℕ) (v : Result Accepted Refusal) (rest : List ℕ) → shown_by (called 0 c.state b (verdict_words s v (data_offset_of g) n ++ rest)) ≡ shown g (judged g s v b)
  unfolding verdict_words content_of
  words_show s (Ok v) rest = refl
  words_show s (Err v) rest = refl

  pub found_shows : (s : ℕ) (v : Result Accepted Refusal) → shown_by (answered (Ok (Some (record { block_offset = s; verdict = v })))) ≡ shown g (judged g s v b)
  unfolding verdict_words
  found_shows s v = rw (over-is c.report (verdict_words s v (data_offset_of g) n) h) (words_show s v (drop 8 c.report))

-- ---- from words that encode a reader, the call is its reading
pub call_is : (g : Settings) (c : Called) (xs : List ℕ) (r : Reader) → 4 ≤ length c.state → 8 ≤ length c.report → decoded c.state ≡ Some r
    → read_call (Some g) c.state xs c.buffer c.report ≡ read_finished g c.state c.report (read_of g r xs c.buffer)
call_is g c xs r h l e =
    sym (read_enough g c.state xs c.buffer c.report (rw (le-leb 4 (length c.state) h, le-leb 8 (length c.report) l)))
    ∙ ap (read_known g c.state xs c.buffer c.report) e

-- ---- from any words whatever
pub record Uses (xs : List ℕ) (d : Called) : Type 0 where
  pub most : d.number ≡ 0 → used_bytes d ≤ length xs
  pub all : d.number ≡ 0 → found_block d ≡ false → used_bytes d ≡ length xs
  pub some : found_block d ≡ true → 1 ≤ used_bytes d

refused_uses : (xs st b v : List ℕ) (n : ℕ) → leb 1 n ≡ true → Uses xs (called n st b v)
refused_uses xs st b v n h =
    let l : 1 ≤ n = leb-true 1 n h in
    record {
      most = λ e. absurd (omega arith);
      all = λ e f. absurd (omega arith);
      some = λ f. let e : n ≡ 0 = eqb-true n 0 (and_left (eqb n 0) _ f) in absurd (omega arith);
    }

-- what the reader gave of the part
module _ (g : Settings) (r : Reader) (xs b : List ℕ) (c : Called) (h : 8 ≤ length c.report) where
  abbrev reading : Reading
  reading = (read_of g r xs b).answer

  reading_uses : (a : Result (Option Found) Refusal) → reading.answer ≡ a → Uses xs (read_answered g c.state c.report reading.reader (read_of g r xs b).buffer reading.used a)
  reading_uses (Ok None) e =
      let n = reading.used in
      let f = (pending_leaves g c h reading.reader (read_of g r xs b).buffer n).used in
      record {
        most = λ z. rw f (call_most g r xs b);
        all = λ z o. f ∙ call_whole g r xs b e;
        some = λ o. absurd (true≢false (sym o ∙ pending_none g c h reading.reader (read_of g r xs b).buffer n));
      }
  reading_uses (Ok (Some found)) e =
      let n = reading.used in
      let f = (found_leaves g c h reading.reader (read_of g r xs b).buffer n found.block_offset found.verdict).used in
      record {
        most = λ z. rw f (call_most g r xs b);
        all = λ z o. absurd (true≢false (sym (found_one g c h reading.reader (read_of g r xs b).buffer n found.block_offset found.verdict) ∙ o));
        some = λ o. rw f (call_goes g r xs b found.block_offset found.verdict e);
      }
  reading_uses (Err why) e = refused_uses xs _ _ _ why.number (ap answer_gives (sym e) ∙ read_gives g r xs b)

decoded_uses : (g : Settings) (c : Called) (xs : List ℕ) (d : Option Reader) → 8 ≤ length c.report → Uses xs (read_decoded g c.state xs c.buffer c.report d)
decoded_uses g c xs None h = refused_uses xs _ _ _ 11 refl
decoded_uses g c xs (Some r) h = reading_uses g r xs c.buffer c h (read_of g r xs c.buffer).answer.answer refl

pub call_uses : (s : Option Settings) (c : Called) (xs : List ℕ) → Uses xs (read_call s c.state xs c.buffer c.report)
unfolding read_call
call_uses None c xs = refused_uses xs _ _ _ 1 refl
call_uses (Some g) c xs =
    let states = leb 4 (length c.state) in
    let reports = leb 8 (length c.report) in
    cond_ind (Uses xs) (valid g) _ _
    (λ v. cond_ind (Uses xs) (states && reports) _ _
    (λ f. cond_ind (Uses xs) (leb (capacity_of g) (length c.buffer)) _ _
    (λ i. decoded_uses g c xs (decoded c.state) (leb-true 8 (length c.report) (and_right states reports f))) (λ i. refused_uses xs _ _ _ 2 refl))
    (λ f. refused_uses xs _ _ _ 2 refl))
    (λ v. refused_uses xs _ _ _ 1 refl)

-- a driver goes on after a call only where it used at least one byte
abbrev call_on : Option Settings → Called → List ℕ → Called
call_on s c xs = read_call s c.state xs c.buffer c.report

goes_less : (s : Option Settings) (c : Called) (xs : List ℕ) → (eqb (call_on s c xs).number 0 && ltb (used_bytes (call_on s c xs)) (length xs)) ≡ true → used_bytes (call_on s c xs) < length xs
goes_less s c xs z = ltb-true (used_bytes (call_on s c xs)) (length xs) (and_right (eqb (call_on s c xs).number 0) (ltb (used_bytes (call_on s c xs)) (length xs)) z)

goes_on_lem : (s : Option Settings) (c : Called) (xs : List ℕ) → (eqb (call_on s c xs).number 0 && ltb (used_bytes (call_on s c xs)) (length xs)) ≡ true → 1 ≤ used_bytes (call_on s c xs)
goes_on_lem s c xs z = go (found_block (call_on s c xs)) refl
  where
    e : (call_on s c xs).number ≡ 0
    e = eqb-true (call_on s c xs).number 0 (and_left (eqb (call_on s c xs).number 0) _ z)

    go : (b : Bool) → found_block (call_on s c xs) ≡ b → 1 ≤ used_bytes (call_on s c xs)
    go true f = (call_uses s c xs).some f
    go false f = let k = (call_uses s c xs).all e f in let l = goes_less s c xs z in absurd (omega arith)

-- so the loop over a part ends: each call that is followed by another has used a byte, and with more calls allowed than bytes one more changes nothing
pub part_ends : (s : Option Settings) (n : ℕ) (c : Called) (xs : List ℕ) → length xs < n → part_calls s (suc n) c xs ≡ part_calls s n c xs
unfolding part_calls
part_ends s zero c xs h = absurd (omega arith)
part_ends s (suc n) c xs h =
    go (eqb (call_on s c xs).number 0 && ltb (used_bytes (call_on s c xs)) (length xs)) refl (λ k. part_ends s n (call_on s c xs) (drop (used_bytes (call_on s c xs)) xs) k)
  where
    step : ℕ → Bool → Driven
    step m z = cond z (followed_by (new_verdict (call_on s c xs)) (part_calls s m (call_on s c xs) (drop (used_bytes (call_on s c xs)) xs))) (driven (new_verdict (call_on s c xs)) (call_on s c xs))

    go : (z : Bool) → (eqb (call_on s c xs).number 0 && ltb (used_bytes (call_on s c xs)) (length xs)) ≡ z
        → (length (drop (used_bytes (call_on s c xs)) xs) < n → part_calls s (suc n) (call_on s c xs) (drop (used_bytes (call_on s c xs)) xs) ≡ part_calls s n (call_on s c xs) (drop (used_bytes (call_on s c xs)) xs))
        → step (suc n) (eqb (call_on s c xs).number 0 && ltb (used_bytes (call_on s c xs)) (length xs)) ≡ step n (eqb (call_on s c xs).number 0 && ltb (used_bytes (call_on s c xs)) (length xs))
    go false z ih = ap (step (suc n)) z ∙ sym (ap (step n) z)
    go true z ih =
        let m = goes_on_lem s c xs z in
        let k = goes_less s c xs z in
        ap (step (suc n)) z
        ∙ ap (followed_by (new_verdict (call_on s c xs))) (ih (simp length-drop (omega arith)))
        ∙ sym (ap (step n) z)
