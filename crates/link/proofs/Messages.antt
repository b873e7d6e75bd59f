-- The messages of a link: each can be written as a block, and is known by what it reads as.
use mathlib.Core.Path.{◌≡◌, refl, sym, ap, subst}
use mathlib.Core.List.{List, [], ◌∷◌}
use mathlib.Core.Bool.{Bool, true, false, cond}
use Prim.Native.Nat.{ℕ, ◌≤◌}
use Prim.Native.Char.{code}
use native.Mathlib.Omega.{arith}
use lib.ListN.{length}
use lib.Dec.{leb, eqb}
use borrow.Author.Tests.{leb-true, ne_eqb}
use Rattle.lists.proofs.Tests.{and_left, and_right}
use Rattle.settings.specs.Settings.{by_kind, valid, valid_link}
use Rattle.settings.specs.declared.Kind.{Kind}
use Rattle.settings.specs.declared.Kind.TheVariants.{Hybrid, Minimal}
use Rattle.settings.specs.declared.Settings.{Settings}
use Rattle.settings.specs.DataBytes.{all_allowed}
use Rattle.block.specs.Format.{hybrid_block, minimal_block, block_of}
use Rattle.block.specs.Judge.{is_reason, type_matches}
use Rattle.writer.specs.Write.{type_valid}
use Rattle.numbers.specs.Numbers.{greatest_sent, text_of}
use Rattle.numbers.specs.declared.SequenceNumber.{SequenceNumber}
use Rattle.numbers.specs.declared.SequenceNumber.TheVariants.{MinusOne, Number}
use Rattle.numbers.proofs.Reading.{text_allowed}
use Rattle.header.specs.declared.Code.{Code}
use Rattle.messages.specs.Messages.{answer_message, control_message, valid_control_id, answerable}
use Rattle.messages.specs.declared.Control.{Control}
use Rattle.messages.specs.declared.Control.TheVariants.{Resynchronize, Query}
use Rattle.message_theorems.specs.ReadBack.{ReadsAnswer, ReadsControl}
use Rattle.message_theorems.proofs.Answer.{answer_reads_back, answer_allowed, answer_length}
use Rattle.message_theorems.proofs.Control.{control_reads_back, control_allowed, control_length}
use Rattle.message_theorems.proofs.HandedOut.{handed_out}
use Rattle.block_theorems.specs.Shapes.{type_read, Writable}
use Rattle.receiver.specs.Receiver.{reason_of, nak_block}
use Rattle.receiver.proofs.Laws.{reason_is, reason_allowed}
use Rattle.link.specs.Line.{Arrival, arrival}
use Rattle.link.specs.System.{Link, request_of}
use Rattle.link.specs.Promise.{Ready}
use Rattle.link.proofs.Queues.{Answer, replies, refuses}

-- ---- what stands on the lines, by what it reads as
-- a transaction is the log's
abbrev pub Carries : Link → SequenceNumber → List ℕ → Type 0
Carries l MinusOne d = d ≡ d
Carries l (Number n) d = 1 ≤ n → d ≡ l.log n

-- the message v
pub record IsRequest (l : Link) (a : Arrival) (v : SequenceNumber) : Type 0 where
  pub type : a.type ≡ code "D"
  pub allowed : all_allowed a.content ≡ true
  pub reads : ReadsControl a.content v
  pub carries : Carries l v a.content

-- an answer, or an N block
pub record IsAnswer (a : Arrival) (v : SequenceNumber) (c : Code) (n : SequenceNumber) : Type 0 where
  pub type : a.type ≡ code "D"
  pub reads : ReadsAnswer a.content c (text_of v) n

abbrev pub IsReply : Arrival → Answer → Type 0
IsReply a (replies v c n) = IsAnswer a v c n
IsReply a (refuses k) = a.type ≡ code "N"

-- a reply that is still to be sent, as a block
pub record IsBlock (g : Settings) (b : List ℕ) (r : Answer) : Type 0 where
  pub type : ℕ
  pub content : List ℕ
  pub is : b ≡ block_of g type content
  pub writable : Writable g type content
  pub reply : IsReply (arrival (type_read g type) content) r

-- ---- what can be named, and what can be said
pub data Nameable (f : ℕ) : SequenceNumber → Type 0 where
  minus : Nameable f MinusOne
  query : {n : ℕ} → n ≡ 0 → Nameable f (Number n)
  transaction : {n : ℕ} → 1 ≤ n → f ≤ n → n ≤ greatest_sent → Nameable f (Number n)

pub record SayableAnswer (v n : SequenceNumber) : Type 0 where
  pub control : valid_control_id (text_of v) ≡ true
  pub number : answerable n ≡ true

nak_matches : (r : ℕ) → is_reason (r ∷ []) ≡ true → type_valid Hybrid (code "N") (r ∷ []) ≡ true
unfolding type_matches
nak_matches r h = h

module _ (g : Settings) (h : valid_link g ≡ true) where
  pub link-valid : valid g ≡ true
  unfolding valid_link
  link-valid = and_left (valid g) (leb 128 g.data_limit) h

  pub link_limit : 128 ≤ g.data_limit
  unfolding valid_link
  link_limit = leb-true 128 g.data_limit (and_right (valid g) (leb 128 g.data_limit) h)

  data_type : (d : List ℕ) → type_valid g.kind (code "D") d ≡ true
  unfolding type_matches
  data_type d = go g.kind
    where
      go : (k : Kind) → type_valid k (code "D") d ≡ true
      go Hybrid = refl
      go Minimal = refl

  pub data_writable : (d : List ℕ) → length d ≤ g.data_limit → all_allowed d ≡ true → Writable g (code "D") d
  data_writable d l a = record { settings = link-valid; fits = l; type = data_type d; bytes = a }

  pub nak_writable : (n : ℕ) → g.kind ≡ Hybrid → Writable g (code "N") (reason_of n ∷ [])
  nak_writable n k =
      record {
        settings = link-valid;
        fits = let m = link_limit in omega arith;
        type = subst (λ (j : Kind). type_valid j (code "N") (reason_of n ∷ []) ≡ true) (sym k) (nak_matches (reason_of n) (reason_is n));
        bytes = reason_allowed n;
      }

  pub answer_writable : (v : SequenceNumber) (c : Code) (n : SequenceNumber) → SayableAnswer v n → Writable g (code "D") (answer_message (text_of v) c n)
  answer_writable v c n s =
      data_writable (answer_message (text_of v) c n) (let m = answer_length (text_of v) c n s.control s.number in let k = link_limit in omega arith)
      (answer_allowed (text_of v) c n (text_allowed v))

  -- a data block reads as one, of either kind
  pub data_read : type_read g (code "D") ≡ (code "D")
  data_read = go g.kind
    where
      go : (k : Kind) → ◌≡◌ {A = ℕ} (by_kind k (code "D") (code "D")) (code "D")
      go Hybrid = refl
      go Minimal = refl

  pub nak_read : g.kind ≡ Hybrid → type_read g (code "N") ≡ (code "N")
  nak_read k = ap (λ (j : Kind). typed j) k
    where
      typed : Kind → ℕ
      typed j = by_kind j (code "N") (code "D")

module _ (l : Link) (rd : Ready l) where
  pub request_reads : (v : SequenceNumber) → Nameable l.first v → ReadsControl (request_of l v) v
  request_reads MinusOne minus = control_reads_back l.name Resynchronize rd.name
  request_reads (Number n) (query e) = subst (λ (k : ℕ). ReadsControl (request_of l (Number k)) (Number k)) (sym e) (control_reads_back l.name Query rd.name)
  request_reads (Number n) (transaction a b c) =
      subst (λ (z : Bool). ReadsControl (cond z (control_message l.name Query) (l.log n)) (Number n)) (sym (ne_eqb n 0 (λ (y : n ≡ 0). omega arith))) (rd.logged n b c).reads

  control_writable : (c : Control) → Writable l.settings (code "D") (control_message l.name c)
  control_writable c =
      data_writable l.settings rd.settings (control_message l.name c) (let m = control_length l.name c in let k = link_limit l.settings rd.settings in omega arith)
      (control_allowed l.name c rd.name)

  pub request_writable : (v : SequenceNumber) → Nameable l.first v → Writable l.settings (code "D") (request_of l v)
  request_writable MinusOne minus = control_writable Resynchronize
  request_writable (Number n) (query e) = subst (λ (k : ℕ). Writable l.settings (code "D") (request_of l (Number k))) (sym e) (control_writable Query)
  request_writable (Number n) (transaction a b c) =
      subst (λ (z : Bool). Writable l.settings (code "D") (cond z (control_message l.name Query) (l.log n))) (sym (ne_eqb n 0 (λ (y : n ≡ 0). omega arith)))
      (data_writable l.settings rd.settings (l.log n) (rd.logged n b c).fits (rd.logged n b c).allowed)

  -- the data of a transaction is the log's
  pub transaction_is : (n : ℕ) → 1 ≤ n → request_of l (Number n) ≡ l.log n
  transaction_is n a = ap (λ (z : Bool). cond z (control_message l.name Query) (l.log n)) (ne_eqb n 0 (λ (y : n ≡ 0). omega arith))

  pub request_control : (v : SequenceNumber) → Nameable l.first v → valid_control_id (text_of v) ≡ true
  request_control v x =
      let r = request_reads v x in
      subst (λ (id : List ℕ). valid_control_id id ≡ true) r.id_read (handed_out (request_of l v) r.readable)

  -- the request that is written for v
  pub request_is : (v : SequenceNumber) → Nameable l.first v → IsRequest l (arrival (type_read l.settings (code "D")) (request_of l v)) v
  request_is v x = record { type = data_read l.settings rd.settings; allowed = (request_writable v x).bytes; reads = request_reads v x; carries = carried v }
    where
      carried : (v : SequenceNumber) → Carries l v (request_of l v)
      carried MinusOne = refl
      carried (Number n) = λ a. transaction_is n a

-- ---- the blocks that the receiver writes
module _ (g : Settings) (h : valid_link g ≡ true) where
  pub answer_block_lem : (v : SequenceNumber) (c : Code) (n : SequenceNumber) → SayableAnswer v n → IsBlock g (block_of g (code "D") (answer_message (text_of v) c n)) (replies v c n)
  answer_block_lem v c n s =
      record {
        type = code "D";
        content = answer_message (text_of v) c n;
        is = refl;
        writable = answer_writable g h v c n s;
        reply = record { type = data_read g h; reads = answer_reads_back (text_of v) c n s.control s.number };
      }

  pub nak_block_lem : (n : ℕ) → g.kind ≡ Hybrid → IsBlock g (nak_block g n) (refuses n)
  nak_block_lem n k = record { type = code "N"; content = reason_of n ∷ []; is = refl; writable = nak_writable g h n k; reply = nak_read g h k }

pub block_some : (g : Settings) (t : ℕ) (d : List ℕ) → eqb (length (block_of g t d)) 0 ≡ false
unfolding block_of hybrid_block minimal_block
block_some g t d = go g.kind
  where
    go : (k : Kind) → eqb (length (by_kind k (hybrid_block g t d) (minimal_block g d))) 0 ≡ false
    go Hybrid = ne_eqb (length (hybrid_block g t d)) 0 (λ e. omega arith)
    go Minimal = ne_eqb (length (minimal_block g d)) 0 (λ e. omega arith)
