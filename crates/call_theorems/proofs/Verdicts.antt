-- Theorems: a verdict that goes through the C functions as its number and its type is decided on as the verdict itself.
use Rattle.std.specs.Prelude.{Option, Some, None, Result, Ok, Err}
use mathlib.Core.Path.{◌≡◌, refl, sym, ap, ◌∙◌}
use mathlib.Core.List.{List, [], ◌∷◌}
use mathlib.Core.Bool.{Bool, true, true≢false}
use Prim.Native.Nat.{ℕ, ◌-◌}
use Prim.Native.Char.{code}
use native.Mathlib.Omega.{arith}
use lib.ListN.{length, take}
use lib.Dec.{leb, ltb, eqb}
use borrow.Author.Tests.{le-ltb, leb-true, eqb-true, ne_eqb}
use Rattle.lists.specs.Bytes.{same, greatest_word}
use Rattle.lists.specs.Outcome.{Outcome}
use Rattle.lists.proofs.Tests.{and_left, cond_ind}
use Rattle.settings.specs.Settings.{by_kind, valid, capacity_of}
use Rattle.settings.specs.DataBytes.{all_allowed}
use Rattle.settings.specs.declared.Kind.{Kind}
use Rattle.settings.specs.declared.Kind.TheVariants.{Hybrid, Minimal}
use Rattle.settings.specs.declared.Settings.{Settings}
use Rattle.refusal.specs.Refusal.{number_of, type_of, length_of, accepted_as}
use Rattle.refusal.specs.declared.Accepted.{Accepted}
use Rattle.refusal.specs.declared.Refusal.{Refusal}
use Rattle.block.specs.Format.{count_field}
use Rattle.block.specs.Judge.{type_matches, header_ok, checksum_matches, judge_parts, judge_hybrid, judge_minimal, judge}
use Rattle.stream.specs.Scan.{Scan, stored_verdict, phase_step, step, fold, read_of}
use Rattle.stream.specs.declared.Phase.{Phase}
use Rattle.stream.specs.declared.Phase.TheVariants.{Between, Inside, Ended}
use Rattle.stream.specs.declared.Reader.{Reader}
use Rattle.stream.specs.declared.Reading.{Reading}
use Rattle.stream.specs.declared.Found.{Found}
use Rattle.words.specs.Words.{verdict_from}
use Rattle.sender.specs.Sender.{block_read_of}
use Rattle.sender.specs.declared.Sender.{Sender}
use Rattle.call_theorems.specs.Verdicts.{passed_on, reader_gives}

-- the verdict that the C functions make again
pub made_again : (v : Result Accepted Refusal) → reader_gives v ≡ true → verdict_from (number_of v) (type_of v) ≡ Some (passed_on v)
made_again (Ok v) h = rw (le-ltb 255 v.block_type (leb-true v.block_type 255 h))
made_again (Err v) h =
    let least = leb-true 3 v.number (and_left (leb 3 v.number) (leb v.number 8) h) in
    rw (ne_eqb v.number 0 (λ (e : v.number ≡ 0). omega arith), h)

-- every verdict that the reader gives is one of these, whatever its state, its buffer and the bytes
type_gives : (t : ℕ) (d : List ℕ) → type_matches t d ≡ true → leb t 255 ≡ true
unfolding type_matches
type_gives t d =
    cond_ind (λ (z : Bool). z ≡ true → leb t 255 ≡ true) (eqb t (code "D")) _ _ (λ e h. rw (eqb-true t (code "D") e))
    (λ e. cond_ind (λ (z : Bool). z ≡ true → leb t 255 ≡ true) (eqb t (code "N")) _ _ (λ f h. rw (eqb-true t (code "N") f)) (λ f h. absurd (true≢false (sym h))))

abbrev Gives : Result Accepted Refusal → Type 0
Gives v = reader_gives v ≡ true

parts_give : (sb t : ℕ) (d ccccc xxx : List ℕ) → Gives (judge_parts sb t d ccccc xxx)
unfolding judge_parts
parts_give sb t d ccccc xxx =
    cond_ind Gives (type_matches t d) _ _
    (λ e. cond_ind Gives (all_allowed d) _ _
    (λ f. cond_ind Gives (same ccccc (count_field d)) _ _ (λ g. cond_ind Gives (checksum_matches sb t d xxx) _ _ (λ h. type_gives t d e) (λ h. refl)) (λ g. refl))
    (λ f. refl))
    (λ e. refl)

judge_gives : (g : Settings) (body : List ℕ) → Gives (judge g body)
unfolding judge judge_hybrid judge_minimal
judge_gives g body = go g.kind
  where
    go : (k : Kind) → Gives (by_kind k (judge_hybrid g.start_block body) (judge_minimal body))
    go Hybrid = cond_ind Gives (header_ok body) _ _ (λ e. parts_give _ _ _ _ _) (λ e. refl)
    go Minimal = cond_ind Gives (all_allowed body) _ _ (λ e. refl) (λ e. refl)

stored_gives : (g : Settings) (n : ℕ) (b : List ℕ) (x : ℕ) → Gives (stored_verdict g n b x)
unfolding stored_verdict
stored_gives g n b x =
    cond_ind Gives (ltb (capacity_of g) n) _ _ (λ e. refl) (λ e. cond_ind Gives (eqb x 0x0D) _ _ (λ f. judge_gives g (take n b)) (λ f. refl))

-- and a call that it refuses has a number
abbrev pub answer_gives : Result (Option Found) Refusal → Bool
answer_gives (Err r) = leb 1 r.number
answer_gives (Ok None) = true
answer_gives (Ok (Some f)) = reader_gives f.verdict

abbrev Scanned : Scan → Type 0
Scanned t = answer_gives t.answer ≡ true

phase_gives : (g : Settings) (p : Phase) (n s k : ℕ) (b : List ℕ) (x : ℕ) → Scanned (phase_step g p n s k b x)
phase_gives g Between n s k b x = cond_ind Scanned (eqb x g.start_block) _ _ (λ e. refl) (λ e. refl)
phase_gives g Inside n s k b x =
    cond_ind Scanned (eqb x g.start_block) _ _ (λ e. refl)
    (λ e. cond_ind Scanned (eqb x g.end_block) _ _ (λ f. refl) (λ f. cond_ind Scanned (ltb n (capacity_of g)) _ _ (λ h. refl) (λ h. refl)))
phase_gives g Ended n s k b x =
    cond_ind Scanned (eqb x g.start_block) _ _ (λ e. stored_gives g n b x) (λ e. stored_gives g n b x)

step_gives : (g : Settings) (a : Result (Option Found) Refusal) (r : Reader) (b : List ℕ) (x : ℕ) → answer_gives a ≡ true → Scanned (step g a r b x)
unfolding step
step_gives g (Ok None) r b x h = phase_gives g r.phase r.body_length r.block_offset r.position b x
step_gives g (Ok (Some f)) r b x h = h
step_gives g (Err n) r b x h = h

fold_gives : (g : Settings) (t : Scan) (xs : List ℕ) → Scanned t → Scanned (fold g t xs)
unfolding fold
fold_gives g t [] h = h
fold_gives g t (x ∷ xs) h = fold_gives g (step g t.answer t.reader t.buffer x) xs (step_gives g t.answer t.reader t.buffer x h)

abbrev pub Read : Outcome Reading → Type 0
Read o = answer_gives o.answer.answer ≡ true

pub read_gives : (g : Settings) (r : Reader) (xs b : List ℕ) → Read (read_of g r xs b)
unfolding read_of
read_gives g r xs b =
    cond_ind Read (valid g) _ _
    (λ e. cond_ind Read (leb (capacity_of g) (length b)) _ _
    (λ f. cond_ind Read (leb (length xs) (greatest_word - r.position)) _ _ (λ h. fold_gives g (record { answer = (Ok None); reader = r; buffer = b }) xs refl) (λ h. refl))
    (λ f. refl))
    (λ e. refl)

pub reader_gives_lem : (g : Settings) (r : Reader) (xs b : List ℕ) (s : ℕ) (v : Result Accepted Refusal) → (read_of g r xs b).answer.answer ≡ Ok (Some (record { block_offset = s; verdict = v }))
    → reader_gives v ≡ true
reader_gives_lem g r xs b s v e = ap answer_gives (sym e) ∙ read_gives g r xs b

-- so the C functions make again every verdict that the reader gave
pub read_again : (g : Settings) (r : Reader) (xs b : List ℕ) (s : ℕ) (v : Result Accepted Refusal) → (read_of g r xs b).answer.answer ≡ Ok (Some (record { block_offset = s; verdict = v }))
    → verdict_from (number_of v) (type_of v) ≡ Some (passed_on v)
read_again g r xs b s v e = made_again v (reader_gives_lem g r xs b s v e)

-- an accepted block goes to the receiver's decision with its type and data; a refused one has a number
pub accepted_number : (v : Result Accepted Refusal) → reader_gives v ≡ true → eqb (number_of v) 0 ≡ true → v ≡ accepted_as (type_of v) (length_of v)
accepted_number (Ok v) h z = refl
accepted_number (Err v) h z = let least = leb-true 3 v.number (and_left (leb 3 v.number) (leb v.number 8) h) in let same = eqb-true v.number 0 z in absurd (omega arith)

-- and the sender acts on it as on the verdict itself
pub sends_the_same : (r : ℕ) (s : Sender) (v : Result Accepted Refusal) (d : List ℕ) → block_read_of r s (passed_on v) d ≡ block_read_of r s v d
unfolding block_read_of
sends_the_same r s (Ok v) d = refl
sends_the_same r s (Err v) d = refl
