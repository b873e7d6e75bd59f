-- Messages that fit are delivered where nothing is lost.
use mathlib.Core.Path.{◌≡◌, refl, sym, ap, ◌∙◌, subst}
use mathlib.Core.List.{List, [], ◌∷◌, ◌++◌}
use mathlib.Core.Bool.{Bool, true, false, cond}
use Prim.Native.Nat.{ℕ, zero, suc, ◌+◌, ◌≤◌, ◌<◌}
use native.Mathlib.Omega.{arith}
use lib.ListN.{length, take, drop, length-append, length-take, length-drop, take-append-drop}
use borrow.Author.Tests.{le-leb, eq-eqb, ne_eqb}
use Rattle.lists.specs.Bytes.{greatest_word}
use Rattle.fragments.proofs.Fragments.{ends_before}
use Rattle.station.specs.declared.Ending.{Ending}
use Rattle.station.specs.declared.Reply.TheVariants.{Ack as AckReply, Eot as EotReply}
use Rattle.station.specs.declared.ReplyKind.TheVariants.{Ack as AckKind}
use Rattle.station.specs.declared.Interrupt.{Interrupt}
use Rattle.station.specs.declared.Interrupt.TheVariants.{Unasked}
use Rattle.station.specs.History.{Unit, good, eot, Block, block, expected_after, text_held, messages_of, Past, past, fits, unit_after, past_of, reply_of, turn_of, unit_outcome, handed_over, station_run}
use Rattle.station.specs.Retransmission.{in_order}
use Rattle.station.proofs.Turns.{unasked_stays}
use Rattle.station.proofs.History.{stands, replies}
use Rattle.master.proofs.Valid.{next_valid}
use Rattle.master.specs.Master.{outstanding, block_number, valid_outstanding, is_last, ending_of_part, block_out, sends_out, next_out, acknowledged_of, accepted_of, ack_of, start_of, master_reply_of, close_of}
use Rattle.master.specs.Reversal.{reversal, fresh_reversal, answer_of, reversed_of, master_state, refuses_rint, start_answer, close_answer}
use Rattle.master.specs.declared.Reversal.{Reversal}
use Rattle.master.specs.declared.Outstanding.{Outstanding}
use Rattle.master.specs.declared.Master.{Master}
use Rattle.master.specs.declared.Master.TheVariants.{Closed, Idle, Waiting}
use Rattle.master.specs.declared.Response.TheVariants.{Ack}
use Rattle.master.specs.declared.Progress.TheVariants.{Acknowledged}
use Rattle.master.specs.declared.End.TheVariants.{ByDriver}
use Rattle.master.specs.declared.MasterActed.{MasterActed}
use Rattle.station_link.specs.System.{Started, Sending, Receiving, System, system, beginning, message_out, text_of, master_did, start_done, receiving_after, opened_receiving, LinkAct, starts, closes, slave_opens, arrives, reply_arrives, station_reply, stored_after, link_act, link_run}
use Rattle.station_link.specs.Promise.{oldest_first, message_blocks, started_blocks, messages_started, AllFit, no_more, one_more, Delivered, DeliveringRun}
use Rattle.station_link.proofs.Numbers.{expected_number_lem}
use Rattle.station_link.proofs.Content.{oldest_length, out_of, after_out, AllSent, Partly, out_blocks, last_complete, goes_on_lem, begins}
use Rattle.station_link.proofs.SlaveSteps.{own_reply, own_after, own_reply_lem}

module _ (b : List ℕ) where
  abbrev c : ℕ
  c = length b

  -- one run after another
  then_run : (y : System) (xs ys : List LinkAct) → link_run b y (xs ++ ys) ≡ link_run b (link_run b y ys) xs
  unfolding link_run
  then_run y [] ys = refl
  then_run y (x ∷ xs) ys = ap (link_act b x) (then_run y xs ys)

  abbrev history : Receiving → Past
  history r = past_of c r.received

  -- the slave's station is open and has accepted these
  record Listens (r : Receiving) (bs : List Block) : Type 0 where
    opened : r.opened ≡ true
    up : history r ≡ past bs false
    stored : r.stored ≡ (station_run b r.received).run.messages
    -- no RINT is asked for
    unasked : (turn_of c r.received).interrupt ≡ Unasked

  abbrev took : Unit → Receiving → Receiving
  took u r = receiving_after (u ∷ []) (stored_after b r u) false false false r

  -- ---- the expected block arrives, and fits
  module _ (s : Sending) (r : Receiving) (bs : List Block) (x : Ending) (t : List ℕ) (l : Listens r bs) (f : fits c bs t ≡ true) where
    abbrev u : Unit
    u = good (expected_after bs) x t

    reply_is : station_reply b r u ≡ AckReply (expected_after bs)
    reply_is =
        replies b r.received u
        ∙ ap (λ (p : Past). reply_of c p (turn_of c r.received) u) l.up
        ∙ own_reply_lem c bs x t (turn_of c r.received)
        ∙ ap (λ (i : Interrupt). cond (fits c bs t) (own_reply (expected_after bs) i) EotReply) l.unasked
        ∙ rw f

    arrives_is : link_run b (system s r (u ∷ []) []) (arrives ∷ []) ≡ system s (took u r) [] (Ack (expected_after bs) ∷ [])
    unfolding link_run link_act
    arrives_is = rw (l.opened, reply_is)

    listens_on : Listens (took u r) (block x t ∷ bs)
    unfolding past_of station_run
    listens_on =
        record {
          opened = l.opened;
          up = ap (λ (p : Past). cond p.closed p (unit_after c p.blocks u)) l.up ∙ own_after c bs x t ∙ rw f;
          stored = ap (handed_over (unit_outcome (station_run b r.received) u).answer.acted.message (unit_outcome (station_run b r.received) u).buffer) l.stored;
          unasked = unasked_stays c r.received l.unasked u refl;
        }

  -- ---- its ACK arrives
  abbrev heard : Reversal → Reversal
  heard v = reversal AckKind v.interrupted v.enquired v.may_receive

  module _ (s : Sending) (r : Receiving) (o : Outstanding) (n : ℕ) (out : s.master ≡ Waiting o) (stays : s.reversal.may_receive ≡ false) (valid : valid_outstanding o ≡ true)
      (own : n ≡ block_number o.count) (countable : o.count < greatest_word) where
    not_reversed : (a : MasterActed) → reversed_of s.reversal a ≡ a
    unfolding reversed_of
    not_reversed a = rw stays

    ack_is : link_run b (system s r [] (Ack n ∷ [])) (reply_arrives ∷ []) ≡ master_did (answer_of (heard s.reversal) (acknowledged_of o)) s.started (system s r [] [])
    unfolding link_run link_act master_reply_of ack_of accepted_of
    ack_is =
        ap (λ (m : Master). master_did (answer_of (heard s.reversal) (reversed_of s.reversal (master_reply_of (refuses_rint s.reversal) (Ack n) m))) s.started (system s r [] [])) out
        ∙ rw (valid, eq-eqb n (block_number o.count) own, ne_eqb o.count greatest_word (λ e. omega (arith, e, countable)))
        (ap (λ (a : MasterActed). master_did (answer_of (heard s.reversal) a) s.started (system s r [] [])) (not_reversed (acknowledged_of o)))

  -- ---- no block is out, and all is delivered
  record Rest (s : Sending) (r : Receiving) (ms : List Started) : Type 0 where
    count : ℕ
    idles : s.master ≡ Idle count
    stays : s.reversal.may_receive ≡ false
    begun : s.started ≡ ms
    finished : s.done ≡ length ms
    complete : AllSent ms s.sent
    counted : length s.sent ≡ count
    listens : Listens r s.sent

  -- a block is out, on its way, and all before it is delivered
  record Flow (s : Sending) (r : Receiving) (o : Outstanding) (ms : List Started) : Type 0 where
    out : s.master ≡ Waiting o
    stays : s.reversal.may_receive ≡ false
    begun : s.started ≡ ms
    partly : Partly ms s.sent o
    valid : valid_outstanding o ≡ true
    counted : length partly.acknowledged ≡ o.count
    earlier_done : s.done ≡ length partly.earlier
    listens : Listens r partly.acknowledged
    short : length partly.now.message ≤ c
    countable : length (started_blocks ms) ≤ greatest_word

  abbrev unit_out : List ℕ → Outstanding → List Block → Unit
  unit_out m o bs = in_order bs (out_of m o)

  -- a run from there to rest
  record ToRest (y : System) (ms : List Started) : Type 0 where
    acts : List LinkAct
    s : Sending
    r : Receiving
    rest : Rest s r ms
    is : link_run b y acts ≡ system s r [] []

  module _ (s : Sending) (r : Receiving) (o : Outstanding) (ms : List Started) (f : Flow s r o ms) where
    abbrev p : Partly ms s.sent o
    p = f.partly

    abbrev m : List ℕ
    m = p.now.message

    abbrev bs : List Block
    bs = p.acknowledged

    -- the text held and the block's are a part of the message
    fits_it : fits c bs (text_of m (block_out o)) ≡ true
    fits_it =
        let n = (block_out o).length in
        let whole = ap length (take-append-drop o.offset m) in
        let parts = length-append (take o.offset m) (drop o.offset m) in
        let part = length-take n (drop o.offset m) in
        let held = ap length p.held in
        let most = f.short in
        le-leb (length (text_held bs) + length (take n (drop o.offset m))) c (omega (arith, whole, parts, part, held, most))

    below : o.count < greatest_word
    below =
        let all = ap length (out_blocks ms s.sent o p) in
        let parts = length-append (oldest_first s.sent) (after_out m o) in
        let same = oldest_length s.sent in
        let l = ap length p.out in
        let n = f.counted in
        let most = f.countable in
        omega (arith, all, parts, same, l, n, most)

    abbrev r2 : Receiving
    r2 = took (unit_out m o bs) r

    both_is : link_run b (system s r (unit_out m o bs ∷ []) []) (reply_arrives ∷ arrives ∷ []) ≡ master_did (answer_of (heard s.reversal) (acknowledged_of o)) s.started (system s r2 [] [])
    unfolding link_run
    both_is =
        ap (λ (y : System). link_run b y (reply_arrives ∷ [])) (arrives_is s r bs (ending_of_part (is_last o)) (text_of m (block_out o)) f.listens fits_it)
        ∙ ack_is s r2 o (expected_after bs) f.out f.stays f.valid (expected_number_lem bs ∙ ap block_number f.counted) below

    listens_then : Listens r2 s.sent
    listens_then = subst (Listens r2) (sym p.out) (listens_on s r bs (ending_of_part (is_last o)) (text_of m (block_out o)) f.listens fits_it)

    counted_then : length s.sent ≡ o.count + 1
    counted_then = let l = ap length p.out in let n = f.counted in omega (arith, l, n)

    -- the message is done
    rests_then : is_last o ≡ true → ToRest (system s r (unit_out m o bs ∷ []) []) ms
    unfolding acknowledged_of answer_of
    rests_then h =
        let s2 : Sending = record { master = Idle (o.count + 1); reversal = reversal AckKind s.reversal.interrupted false false; started = s.started; sent = s.sent; done = suc s.done; ended = s.ended } in
        let n = ap length p.begun in
        let d = f.earlier_done in
        record {
          acts = reply_arrives ∷ arrives ∷ [];
          s = s2;
          r = r2;
          rest = record {
            count = o.count + 1;
            idles = refl;
            stays = refl;
            begun = f.begun;
            finished = omega (arith, n, d);
            complete = last_complete ms s.sent o p h;
            counted = counted_then;
            listens = listens_then;
          };
          is = both_is ∙ rw h;
        }

    -- the next block is out
    abbrev s3 : Sending
    s3 = record { master = Waiting (next_out o); reversal = reversal AckKind s.reversal.interrupted false s.reversal.may_receive; started = s.started; sent = out_of m (next_out o) ∷ s.sent; done = s.done; ended = s.ended }

    goes_is : is_last o ≡ false → acknowledged_of o ≡ sends_out Acknowledged (next_out o)
    unfolding acknowledged_of
    goes_is h = rw h

    next_is : is_last o ≡ false → link_run b (system s r (unit_out m o bs ∷ []) []) (reply_arrives ∷ arrives ∷ []) ≡ system s3 r2 (unit_out m (next_out o) s.sent ∷ []) []
    unfolding answer_of
    next_is h =
        both_is
        ∙ ap (λ (a : MasterActed). master_did (answer_of (heard s.reversal) a) s.started (system s r2 [] [])) (goes_is h)
        ∙ (ap (λ (l : List Started). system (record { master = Waiting (next_out o); reversal = s3.reversal; started = s.started; sent = out_of (message_out l) (next_out o) ∷ s.sent; done = s.done; ended = s.ended }) r2
        (good (block_number (o.count + 1)) (ending_of_part (is_last (next_out o))) (text_of (message_out l) (block_out (next_out o))) ∷ []) []) (f.begun ∙ p.begun)
        ∙ ap (λ (n : ℕ). system s3 r2 (good n (ending_of_part (is_last (next_out o))) (text_of m (block_out (next_out o))) ∷ []) []) (ap block_number (sym counted_then) ∙ sym (expected_number_lem s.sent)))

    flows_on : is_last o ≡ false → Flow s3 r2 (next_out o) ms
    unfolding goes_on_lem
    flows_on h =
        record {
          out = refl;
          stays = f.stays;
          begun = f.begun;
          partly = goes_on_lem ms s.sent o p h;
          valid = next_valid o f.valid h;
          counted = counted_then;
          earlier_done = f.earlier_done;
          listens = listens_then;
          short = f.short;
          countable = f.countable;
        }

    -- by what comes next
    by_next : (is_last o ≡ false → ToRest (system s3 r2 (unit_out m (next_out o) s.sent ∷ []) []) ms) → ToRest (system s r (unit_out m o bs ∷ []) []) ms
    by_next g = go (is_last o) refl
      where
        go : (v : Bool) → is_last o ≡ v → ToRest (system s r (unit_out m o bs ∷ []) []) ms
        go true h = rests_then h
        go false h =
            let t = g h in
            record {
              acts = t.acts ++ reply_arrives ∷ arrives ∷ [];
              s = t.s;
              r = t.r;
              rest = t.rest;
              is = then_run (system s r (unit_out m o bs ∷ []) []) t.acts (reply_arrives ∷ arrives ∷ []) ∙ ap (λ (y : System). link_run b y t.acts) (next_is h) ∙ t.is;
            }

    -- what is left is shorter
    shorter : (n : ℕ) → is_last o ≡ false → length (drop o.offset m) ≤ suc n → length (drop (o.offset + o.block_size) m) ≤ n
    shorter n h l =
        let less = ends_before o.message_length o.block_size o.offset h in
        let d = length-drop o.offset m in
        let e = length-drop (o.offset + o.block_size) m in
        let q = p.positive in
        let w = p.whole in
        omega (arith, less, d, e, q, w, l)

    none_left_lem : is_last o ≡ false → length (drop o.offset m) ≤ 0 → ⊥
    none_left_lem h l =
        let less = ends_before o.message_length o.block_size o.offset h in
        let d = length-drop o.offset m in
        let w = p.whole in
        omega (arith, less, d, w, l)

  -- ---- the blocks of a message, one after the other
  to_rest : (n : ℕ) (s : Sending) (r : Receiving) (o : Outstanding) (ms : List Started) (f : Flow s r o ms)
      → length (drop o.offset f.partly.now.message) ≤ n → ToRest (system s r (unit_out f.partly.now.message o f.partly.acknowledged ∷ []) []) ms
  unfolding flows_on goes_on_lem
  to_rest zero s r o ms f l = by_next s r o ms f (λ h. absurd (none_left_lem s r o ms f h l))
  to_rest (suc n) s r o ms f l =
      by_next s r o ms f (λ h. to_rest n (s3 s r o ms f) (r2 s r o ms f) (next_out o) ms (flows_on s r o ms f h) (shorter s r o ms f n h l))

  -- ---- a message is started
  module _ (s : Sending) (r : Receiving) (ms : List Started) (t : Rest s r ms) (a : Started)
      (positive : 1 ≤ a.size) (short : length a.message ≤ c) (countable : length (started_blocks (a ∷ ms)) ≤ greatest_word) where
    abbrev o : Outstanding
    o = outstanding (length a.message) a.size 0 0 t.count

    abbrev s1 : Sending
    s1 = record { master = Waiting o; reversal = reversal s.reversal.last s.reversal.interrupted false s.reversal.may_receive; started = a ∷ s.started; sent = out_of a.message o ∷ s.sent; done = s.done; ended = s.ended }

    start_is : link_run b (system s r [] []) (starts a.message a.size ∷ []) ≡ system s1 r (unit_out a.message o s.sent ∷ []) []
    unfolding link_run link_act start_of answer_of
    start_is =
        ap (λ (m : Master). start_done a (start_answer (length a.message) a.size (master_state m s.reversal)) (system s r [] [])) t.idles
        ∙ rw (le-leb 1 a.size positive)
        (ap (λ (n : ℕ). system s1 r (good n (ending_of_part (is_last o)) (text_of a.message (block_out o)) ∷ []) []) (ap block_number (sym t.counted) ∙ sym (expected_number_lem s.sent)))

    first_flows : Flow s1 r o (a ∷ ms)
    unfolding begins
    first_flows =
        record {
          out = refl;
          stays = t.stays;
          begun = ap (λ (l : List Started). a ∷ l) t.begun;
          partly = begins ms s.sent a t.count positive t.complete;
          valid = rw (le-leb 1 a.size positive);
          counted = t.counted;
          earlier_done = t.finished;
          listens = t.listens;
          short = short;
          countable = countable;
        }

    message_delivered : ToRest (system s r [] []) (a ∷ ms)
    unfolding first_flows begins
    message_delivered =
        let t2 = to_rest (length a.message) s1 r o (a ∷ ms) first_flows (omega arith) in
        record {
          acts = t2.acts ++ starts a.message a.size ∷ [];
          s = t2.s;
          r = t2.r;
          rest = t2.rest;
          is = then_run (system s r [] []) t2.acts (starts a.message a.size ∷ []) ∙ ap (λ (y : System). link_run b y t2.acts) start_is ∙ t2.is;
        }

  -- ---- all messages
  fewer : (a : Started) (ms : List Started) → length (started_blocks (a ∷ ms)) ≤ greatest_word → length (started_blocks ms) ≤ greatest_word
  unfolding started_blocks
  fewer a ms h = let l = length-append (started_blocks ms) (message_blocks a) in omega (arith, l, h)

  opened_rest : ToRest beginning []
  unfolding link_run link_act past_of turn_of station_run answer_of oldest_first started_blocks messages_started text_held messages_of
  opened_rest =
      record {
        acts = slave_opens ∷ [];
        s = beginning.sending;
        r = opened_receiving [] beginning.receiving;
        rest = record { count = 0; idles = refl; stays = refl; begun = refl; finished = refl; complete = record { blocks = refl; held = refl; messages = refl }; counted = refl; listens = record { opened = refl; up = refl; stored = refl; unasked = refl } };
        is = refl;
      }

  all_rest : (ms : List Started) → AllFit c ms → length (started_blocks ms) ≤ greatest_word → ToRest beginning ms
  all_rest [] no_more h = opened_rest
  all_rest (a ∷ ms) (one_more positive short i) h =
      let t = all_rest ms i (fewer a ms h) in
      let t2 = message_delivered t.s t.r ms t.rest a positive short h in
      record {
        acts = t2.acts ++ t.acts;
        s = t2.s;
        r = t2.r;
        rest = t2.rest;
        is = then_run beginning t2.acts t.acts ∙ ap (λ (y : System). link_run b y t2.acts) t.is ∙ t2.is;
      }

  -- ---- and the master is closed
  closed-sending : Sending → ℕ → Sending
  closed-sending s n = record { master = Closed n; reversal = fresh_reversal; started = s.started; sent = s.sent; done = s.done; ended = ByDriver }

  module _ (s : Sending) (r : Receiving) (ms : List Started) (t : Rest s r ms) where
    close_is : link_run b (system s r [] []) (closes ∷ []) ≡ system (closed-sending s t.count) r (eot ∷ []) []
    unfolding link_run link_act close_of answer_of closed-sending
    close_is = ap (λ (m : Master). master_did (close_answer (master_state m s.reversal)) s.started (system s r [] [])) t.idles

    closed_delivered : Delivered b ms (system (closed-sending s t.count) r (eot ∷ []) [])
    unfolding closed-sending
    closed_delivered =
        record {
          started = t.begun;
          all-handed = (stands b r.received).messages ∙ ap messages_of (ap (λ (p : Past). p.blocks) t.listens.up) ∙ t.complete.messages;
          stored = t.listens.stored ∙ (stands b r.received).messages ∙ ap messages_of (ap (λ (p : Past). p.blocks) t.listens.up) ∙ t.complete.messages;
          done = t.finished;
          count = let n = ap length t.complete.blocks in let l = oldest_length s.sent in let k = t.counted in omega (arith, n, l, k);
          closed = refl;
        }

  pub delivers : (ms : List Started) → AllFit c ms → length (started_blocks ms) ≤ greatest_word → DeliveringRun b ms
  delivers ms i h =
      let t = all_rest ms i h in
      record {
        acts = closes ∷ [] ++ t.acts;
        delivered =
            subst (Delivered b ms) (sym (then_run beginning (closes ∷ []) t.acts ∙ ap (λ (y : System). link_run b y (closes ∷ [])) t.is ∙ close_is t.s t.r ms t.rest))
            (closed_delivered t.s t.r ms t.rest);
      }
