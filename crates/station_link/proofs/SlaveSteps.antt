-- What arrives at the slave keeps how the two ends stand.
use mathlib.Core.Path.{◌≡◌, refl, sym, ap, ◌∙◌, subst}
use mathlib.Core.List.{List, [], ◌∷◌, ◌++◌}
use mathlib.Core.Bool.{Bool, true, false, cond}
use Prim.Native.Nat.{ℕ, zero, suc, ◌+◌, ◌-◌, ◌≤◌}
use native.Mathlib.Omega.{arith}
use lib.ListN.{length}
use lib.Dec.{eqb}
use borrow.Author.Tests.{le-leb, eq-eqb, ne_eqb}
use Rattle.lists.proofs.Append.{append_none}
use Rattle.station.specs.Station.{next_number, precedes}
use Rattle.station.specs.declared.Ending.{Ending}
use Rattle.station.specs.declared.Reply.{Reply}
use Rattle.station.specs.declared.Reply.TheVariants.{NoReply, Ack as AckReply, Nak as NakReply, Eot as EotReply, Rint as RintReply}
use Rattle.station.specs.declared.ReplyKind.{ReplyKind}
use Rattle.station.specs.declared.ReplyKind.TheVariants.{NoneYet, Ack as AckKind, Nak as NakKind, Rint as RintKind}
use Rattle.station.specs.declared.Interrupt.{Interrupt}
use Rattle.station.specs.declared.Interrupt.TheVariants.{Unasked, Pending, Given}
use Rattle.station.specs.declared.Turn.{Turn}
use Rattle.station.specs.Interrupt.{fresh_turn, turn_after, open_given, number_before, last_reply}
use Rattle.station.specs.History.{Unit, good, bad, enquiry, eot, bare_enq, asks, Block, block, expected_after, Past, past, fits, unit_after, plain_reply, open_reply, asked, turn_by, reply_of}
use Rattle.station.specs.Retransmission.{in_order}
use Rattle.station.proofs.Duplicates.{before_small, next_preceded, precedes_next}
use Rattle.master.specs.Master.{block_number}
use Rattle.master.specs.declared.Master.{Master}
use Rattle.master.specs.declared.Master.TheVariants.{Closed, Idle, Waiting}
use Rattle.master.specs.declared.Response.{Response}
use Rattle.master.specs.declared.Response.TheVariants.{Ack, Nak, Eot, Rint}
use Rattle.master.specs.MasterHistory.{is_rint_kind}
use Rattle.station_link.specs.System.{Started, responses_of, refused_reply}
use Rattle.station_link.proofs.Queues.{fine, All, also, Phases, only, older, all_as}
use Rattle.station_link.proofs.Stretches.{old_rints, old_others, new_rints, new_others, rank, old_rint, old_ack_lem, old_nak, old_eot, new_rint, new_ack, new_nak, new_eot, behind, later}
use Rattle.station_link.proofs.Numbers.{block_number_next, expected_number_lem, expected_small, not_itself, before_next}
use Rattle.station_link.proofs.Content.{out_of, Good}
use Rattle.station_link.proofs.Invariant.{Duplicate, Copy, Even, from, even_end, out_end, Stand, idle, pending, taken, over_even, over_ahead, forward_kept, backward_kept}

-- ---- a reply is put on the line
pub even_most : (z : Bool) → rank (even_end z) ≤ 1
even_most true = omega arith
even_most false = omega arith

out_most : (z : Bool) → rank (out_end z) ≤ 3
out_most true = omega arith
out_most false = omega arith

out_least : (z : Bool) → 2 ≤ rank (out_end z)
out_least true = omega arith
out_least false = omega arith

module _ (ms : List Started) (d : ℕ) (bs sent : List Block) (us : List Unit) (rs : List Response) (r z : Bool) where
  pub nak_added : (m : Master) → Stand ms d bs sent us rs r z m → Stand ms d bs sent us (rs ++ Nak ∷ []) r false m
  nak_added m s =
      backward_kept ms d bs sent us rs r z (rs ++ Nak ∷ []) r false (λ n i. behind n (even_end z) old_others (from r) Nak rs (even_most z) old_nak i)
      (λ n i. behind n (out_end z) new_others (from r) Nak rs (out_most z) new_nak i) m s

  pub eot_added : (m : Master) → Stand ms d bs sent us rs r z m → Stand ms d bs sent us (rs ++ Eot ∷ []) r false m
  eot_added m s =
      backward_kept ms d bs sent us rs r z (rs ++ Eot ∷ []) r false (λ n i. behind n (even_end z) old_others (from r) Eot rs (even_most z) old_eot i)
      (λ n i. behind n (out_end z) new_others (from r) Eot rs (out_most z) new_eot i) m s

  -- the slave forgets that it gave a RINT
  pub forgotten : (m : Master) → Stand ms d bs sent us rs r z m → Stand ms d bs sent us rs r false m
  forgotten m s =
      backward_kept ms d bs sent us rs r z rs r false (λ n i. later n (even_end z) old_others (from r) rs (even_most z) i)
      (λ n i. later n (out_end z) new_others (from r) rs (out_most z) i) m s

  -- an ACK has the number just before the expected one: that of a duplicate, that of a block that was just accepted, and one that is given again
  pub ack_added : (n : ℕ) → precedes n (expected_after bs) ≡ true → (m : Master) → Stand ms d bs sent us rs r z m → Stand ms d bs sent us (rs ++ Ack n ∷ []) r false m
  ack_added n q (Idle a) (idle e l c h u w) =
      idle e l c h u
      (behind (block_number a) (even_end z) old_others (from r) (Ack n) rs (even_most z) (old_ack_lem (subst (λ (x : ℕ). precedes n x ≡ true) (expected_number_lem bs ∙ ap block_number l) q)) w)
  ack_added n q (Waiting o) (pending p v e l h u w) =
      pending p v e l h u
      (behind (block_number o.count) (even_end z) old_others (from r) (Ack n) rs (even_most z) (old_ack_lem (subst (λ (x : ℕ). precedes n x ≡ true) (expected_number_lem bs ∙ ap block_number l) q)) w)
  ack_added n q (Waiting o) (taken p v e l h u w) =
      let next : expected_after bs ≡ next_number (block_number o.count) =
      expected_number_lem bs ∙ ap (λ (x : List Block). block_number (length x)) (sym e ∙ p.out) ∙ block_number_next (length p.acknowledged) ∙ ap (λ (x : ℕ). next_number (block_number x)) l in
      let small : next_number (block_number o.count) ≤ 7 = subst (λ (x : ℕ). x ≤ 7) next (expected_small bs) in
      let own : block_number o.count ≤ 7 = subst (λ (x : ℕ). x ≤ 7) (expected_number_lem p.acknowledged ∙ ap block_number l) (expected_small p.acknowledged) in
      taken p v e l h u
      (behind (block_number o.count) (out_end z) new_others (from r) (Ack n) rs (out_most z)
      (new_ack (before_next n (block_number o.count) own small (subst (λ (x : ℕ). precedes n x ≡ true) next q))) w)
  ack_added n q (Closed a) (over_even e l k c u) = over_even e l k c u
  ack_added n q (Closed a) (over_ahead k e l c i u) = over_ahead k e l c i u

-- a RINT behind replies of which the last is a RINT
pub rint_added : (ms : List Started) (d : ℕ) (bs sent : List Block) (us : List Unit) (rs : List Response) (r : Bool) (m : Master)
    → Stand ms d bs sent us rs r true m → Stand ms d bs sent us (rs ++ Rint ∷ []) r true m
rint_added ms d bs sent us rs r m s =
    backward_kept ms d bs sent us rs r true (rs ++ Rint ∷ []) r true (λ n i. behind n old_rints old_rints (from r) Rint rs (omega arith) old_rint i)
    (λ n i. behind n new_rints new_rints (from r) Rint rs (omega arith) new_rint i) m s

-- ---- the unit that stood first is gone
module _ (ms : List Started) (d : ℕ) (bs sent : List Block) (v : Unit) (us : List Unit) (rs : List Response) (r z : Bool) where
  pub passed : (m : Master) → Stand ms d bs sent (v ∷ us) rs r z m → Stand ms d bs sent us rs r z m
  passed m s = forward_kept ms d bs sent (v ∷ us) rs r z us all_tail phases_tail m s
    where
      all_tail : (e : ℕ) → All (Duplicate e) (v ∷ us) → All (Duplicate e) us
      all_tail e (also q i) = i

      phases_tail : (e : ℕ) (w : Unit) → Phases (Duplicate e) (Copy w) (v ∷ us) → Phases (Duplicate e) (Copy w) us
      phases_tail e w (only (also q i)) = only i
      phases_tail e w (older q i) = i

abbrev number_of : Unit → ℕ
number_of (good n y s) = n
number_of bad = 0
number_of enquiry = 0
number_of eot = 0
number_of bare_enq = 0
number_of asks = 0

-- the copies of an accepted block are duplicates
copies_even : (bs : List Block) (k : Block) (us : List Unit) → All (Copy (in_order bs k)) us → Even (k ∷ bs) us
unfolding expected_after
copies_even bs (block x t) us i = all_as (Copy (good (expected_after bs) x t)) (Duplicate (next_number (expected_after bs))) go us i
  where
    go : (w : Unit) → Copy (good (expected_after bs) x t) w → Duplicate (next_number (expected_after bs)) w
    go (good n y s) e = subst (λ (z : ℕ). precedes n (next_number z) ≡ true) (ap number_of e) (next_preceded n)
    go bad e = fine
    go enquiry e = fine
    go eot e = fine
    go bare_enq e = fine
    go asks e = fine

module _ (ms : List Started) (d : ℕ) (bs sent : List Block) (v : Unit) (us : List Unit) (rs : List Response) (r z : Bool) where
  -- what a good block at the head of the line is
  pub data Arriving (n : ℕ) (x : Ending) (t : List ℕ) (m : Master) : Type 0 where
    duplicate : precedes n (expected_after bs) ≡ true → Arriving n x t m
    -- the block that was sent last, not yet accepted; accepted, it leaves things so, whatever the slave replies to it
    next : (k : Block) → good n x t ≡ in_order bs k → ((z2 : Bool) → Stand ms d (k ∷ bs) sent us rs r z2 m) → Arriving n x t m

  pub arriving : (n : ℕ) (x : Ending) (t : List ℕ) → v ≡ good n x t → (m : Master) → Stand ms d bs sent (v ∷ us) rs r z m → Arriving n x t m
  arriving n x t g (Idle a) (idle e l c h (also q i) w) = duplicate (subst (Duplicate (expected_after bs)) g q)
  arriving n x t g (Waiting o) (pending p y e l h (older q i) w) = duplicate (subst (Duplicate (expected_after bs)) g q)
  arriving n x t g (Waiting o) (pending p y e l h (only (also q i)) w) =
      let k = out_of p.now.message o in
      next k (subst (Copy (in_order bs k)) g q)
      (λ z2. taken p y (p.out ∙ ap (λ (j : List Block). k ∷ j) e) (ap length e ∙ l) h (copies_even bs k us i)
      (later (block_number o.count) (even_end z) (out_end z2) (from r) rs (let most = even_most z in let least = out_least z2 in omega (arith, most, least)) w))
  arriving n x t g (Waiting o) (taken p y e l h (also q i) w) = duplicate (subst (Duplicate (expected_after bs)) g q)
  arriving n x t g (Closed a) (over_even e l k c (also q i)) = duplicate (subst (Duplicate (expected_after bs)) g q)
  arriving n x t g (Closed a) (over_ahead k e l c j (older q i)) = duplicate (subst (Duplicate (expected_after bs)) g q)
  arriving n x t g (Closed a) (over_ahead k e l c j (only (also q i))) =
      next k (subst (Copy (in_order bs k)) g q) (λ z2. over_even {a = a} e (omega (arith, l)) (omega (arith, l)) (subst (Good ms d) e j) (copies_even bs k us i))

-- ---- what the open station makes of it, with a buffer of c bytes
abbrev pub own_reply : ℕ → Interrupt → Reply
own_reply e Unasked = AckReply e
own_reply e Pending = RintReply
own_reply e Given = AckReply e

module _ (c : ℕ) (bs : List Block) where
  module _ (n : ℕ) (x : Ending) (t : List ℕ) (q : precedes n (expected_after bs) ≡ true) where
    dup_dropped : unit_after c bs (good n x t) ≡ past bs false
    dup_dropped = rw (ne_eqb n (expected_after bs) (not_itself n (expected_after bs) q))

    dup_plain : plain_reply c bs (good n x t) ≡ AckReply n
    dup_plain =
        rw (
          le-leb n 7 (before_small n (expected_after bs) (expected_small bs) (precedes_next n (expected_after bs) q)),
          ne_eqb n (expected_after bs) (not_itself n (expected_after bs) q),
          q,
        )

    -- also where a RINT is pending
    dup_given : (i : Interrupt) → open_given (expected_after bs) (AckReply n) i ≡ AckReply n
    dup_given Unasked = refl
    dup_given Pending = rw (ne_eqb n (expected_after bs) (not_itself n (expected_after bs) q))
    dup_given Given = refl

    pub dup_reply : (v : Turn) → open_reply c bs v (good n x t) ≡ AckReply n
    dup_reply v = ap (λ (w : Reply). open_given (expected_after bs) w v.interrupt) dup_plain ∙ dup_given v.interrupt

  module _ (x : Ending) (t : List ℕ) where
    pub own_number : eqb (expected_after bs) (expected_after bs) ≡ true
    own_number = eq-eqb (expected_after bs) (expected_after bs) refl

    pub own_after : unit_after c bs (good (expected_after bs) x t) ≡ cond (fits c bs t) (past (block x t ∷ bs) false) (past bs true)
    own_after = rw own_number

    own_plain : plain_reply c bs (good (expected_after bs) x t) ≡ cond (fits c bs t) (AckReply (expected_after bs)) EotReply
    own_plain = rw (le-leb (expected_after bs) 7 (expected_small bs), own_number)

    own_given : (i : Interrupt) (f : Bool) → open_given (expected_after bs) (cond f (AckReply (expected_after bs)) EotReply) i ≡ cond f (own_reply (expected_after bs) i) EotReply
    own_given Unasked true = refl
    own_given Pending true = rw own_number
    own_given Given true = refl
    own_given i false = refl

    pub own_reply_lem : (v : Turn) → open_reply c bs v (good (expected_after bs) x t) ≡ cond (fits c bs t) (own_reply (expected_after bs) v.interrupt) EotReply
    own_reply_lem v = ap (λ (w : Reply). open_given (expected_after bs) w v.interrupt) own_plain ∙ own_given v.interrupt (fits c bs t)

-- the number of the last ACK is the one just before the expected one
before_is : (k : ℕ) → number_before (suc k) ≡ k
unfolding number_before
before_is k = subst (λ (v : Bool). cond v 7 (suc k - 1) ≡ k) (sym (ne_eqb (suc k) 0 (λ q. omega (arith, q)))) (omega arith)

last_number : (e : ℕ) → e ≤ 7 → precedes (number_before e) e ≡ true
unfolding number_before precedes next_number
last_number zero h = refl
last_number (suc k) h =
    subst (λ (z : ℕ). precedes z (suc k) ≡ true) (sym (before_is k))
    (subst (λ (v : Bool). eqb (cond v 0 (k + 1)) (suc k) ≡ true) (sym (ne_eqb k 7 (λ q. omega (arith, q, h)))) (eq-eqb (k + 1) (suc k) (omega arith)))

-- how things stand after a unit, with the reply w or with EOT in its place; the slave keeps v of its replies then
pub record Arrived (ms : List Started) (d : ℕ) (sent : List Block) (us : List Unit) (rs : List Response) (r : Bool) (m : Master) (p : Past) (v : Turn) (w : Reply) : Type 0 where
  pub replied : Stand ms d p.blocks sent us (rs ++ responses_of w) r (is_rint_kind v.last) m
  pub unstored : Stand ms d p.blocks sent us (rs ++ refused_reply w) r false m

module _ (ms : List Started) (d : ℕ) (c : ℕ) (bs sent : List Block) (us : List Unit) (rs : List Response) (r : Bool) (m : Master) where
  abbrev After : Past → Turn → Reply → Type 0
  After p v w = Arrived ms d sent us rs r m p v w

  abbrev Here : List Block → Bool → Type 0
  Here cs z = Stand ms d cs sent us rs r z m

  by_none : (cs : List Block) (k : Bool) (v : Turn) → Here cs (is_rint_kind v.last) → After (past cs k) v NoReply
  by_none cs k v s =
      let t = subst (λ (l : List Response). Stand ms d cs sent us l r (is_rint_kind v.last) m) (sym (append_none rs)) s in
      record { replied = t; unstored = forgotten ms d cs sent us (rs ++ []) r (is_rint_kind v.last) m t }

  by_eot : (k : Bool) (z : Bool) → Here bs z → After (past bs k) fresh_turn EotReply
  by_eot k z s = let t = eot_added ms d bs sent us rs r z m s in record { replied = t; unstored = t }

  by_nak : (k : Bool) (v : Turn) (z : Bool) → Here bs z → After (past bs k) (turn_after NakReply v) NakReply
  unfolding turn_after
  by_nak k v z s = record { replied = nak_added ms d bs sent us rs r z m s; unstored = eot_added ms d bs sent us rs r z m s }

  by_ack : (cs : List Block) (k : Bool) (v : Turn) (n : ℕ) (z : Bool) → precedes n (expected_after cs) ≡ true → Here cs z → After (past cs k) (turn_after (AckReply n) v) (AckReply n)
  unfolding turn_after
  by_ack cs k v n z q s = record { replied = ack_added ms d cs sent us rs r z n q m s; unstored = eot_added ms d cs sent us rs r z m s }

  by_rint : (cs : List Block) (k : Bool) (v : Turn) → Here cs true → After (past cs k) (turn_after RintReply v) RintReply
  unfolding turn_after
  by_rint cs k v s = record { replied = rint_added ms d cs sent us rs r m s; unstored = eot_added ms d cs sent us rs r true m s }

  -- the accepted block, by how it stands with RINT
  by_own : (cs : List Block) (e : ℕ) (v : Turn) (i : Interrupt) → precedes e (expected_after cs) ≡ true → ((z : Bool) → Here cs z)
      → After (past cs false) (turn_after (own_reply e i) v) (own_reply e i)
  by_own cs e v Unasked q s = by_ack cs false v e false q (s false)
  by_own cs e v Pending q s = by_rint cs false v (s true)
  by_own cs e v Given q s = by_ack cs false v e false q (s false)

  own_arrives : (k : Block) (v : Turn) (z : Bool) → Here bs z → ((y : Bool) → Here (k ∷ bs) y) → After (unit_after c bs (in_order bs k)) (turn_by c bs v (in_order bs k)) (open_reply c bs v (in_order bs k))
  unfolding expected_after turn_after
  own_arrives (block x t) v z s s2 = rw (own_after c bs x t, own_reply_lem c bs x t v) (go (fits c bs t))
    where
      go : (f : Bool)
          → After (cond f (past (block x t ∷ bs) false) (past bs true)) (turn_after (cond f (own_reply (expected_after bs) v.interrupt) EotReply) v) (cond f (own_reply (expected_after bs) v.interrupt) EotReply)
      go true = by_own (block x t ∷ bs) (expected_after bs) v v.interrupt (next_preceded (expected_after bs)) s2
      go false = by_eot true z s

  good_arrives : (n : ℕ) (x : Ending) (t : List ℕ) (v : Turn) (z : Bool) → Stand ms d bs sent (good n x t ∷ us) rs r z m
      → After (unit_after c bs (good n x t)) (turn_by c bs v (good n x t)) (open_reply c bs v (good n x t))
  good_arrives n x t v z s = go (arriving ms d bs sent (good n x t) us rs r z n x t refl m s)
    where
      rest : Here bs z
      rest = passed ms d bs sent (good n x t) us rs r z m s

      go : Arriving ms d bs sent (good n x t) us rs r z n x t m → After (unit_after c bs (good n x t)) (turn_by c bs v (good n x t)) (open_reply c bs v (good n x t))
      go (duplicate q) = rw (dup_dropped c bs n x t q, dup_reply c bs n x t q v) (by_ack bs false v n z q rest)
      go (next k e s2) = subst (λ (u : Unit). After (unit_after c bs u) (turn_by c bs v u) (open_reply c bs v u)) (sym e) (own_arrives k v z rest s2)

  -- the last reply is given again
  enq_arrives : (k : ReplyKind) (v : Turn) → v.last ≡ k → Here bs (is_rint_kind k) → After (past bs false) (turn_after (last_reply (expected_after bs) k) v) (last_reply (expected_after bs) k)
  enq_arrives NoneYet v e s = by_nak false v false s
  enq_arrives AckKind v e s = by_ack bs false v (number_before (expected_after bs)) false (last_number (expected_after bs) (expected_small bs)) s
  enq_arrives NakKind v e s = by_nak false v false s
  enq_arrives RintKind v e s = by_rint bs false v s

  -- what the driver asks for changes no reply
  asks_arrives : (k : ReplyKind) (i : Interrupt) → Here bs (is_rint_kind k) → After (past bs false) (asked k i) NoReply
  asks_arrives k Unasked s = by_none bs false (asked k Unasked) s
  asks_arrives k Pending s = by_none bs false (asked k Pending) s
  asks_arrives k Given s = by_none bs false (asked k Given) s

  open_arrives : (u : Unit) (v : Turn) → Stand ms d bs sent (u ∷ us) rs r (is_rint_kind v.last) m → After (unit_after c bs u) (turn_by c bs v u) (open_reply c bs v u)
  open_arrives (good n x t) v s = good_arrives n x t v (is_rint_kind v.last) s
  open_arrives bad v s = by_nak false v (is_rint_kind v.last) (passed ms d bs sent bad us rs r (is_rint_kind v.last) m s)
  open_arrives enquiry v s = by_nak false v (is_rint_kind v.last) (passed ms d bs sent enquiry us rs r (is_rint_kind v.last) m s)
  open_arrives eot v s = by_none bs true fresh_turn (forgotten ms d bs sent us rs r (is_rint_kind v.last) m (passed ms d bs sent eot us rs r (is_rint_kind v.last) m s))
  open_arrives bare_enq v s = enq_arrives v.last v refl (passed ms d bs sent bare_enq us rs r (is_rint_kind v.last) m s)
  open_arrives asks v s = asks_arrives v.last v.interrupt (passed ms d bs sent asks us rs r (is_rint_kind v.last) m s)

  pub unit_arrives : (k : Bool) (u : Unit) (v : Turn) → Stand ms d bs sent (u ∷ us) rs r (is_rint_kind v.last) m
      → After (cond k (past bs k) (unit_after c bs u)) (cond k fresh_turn (turn_by c bs v u)) (reply_of c (past bs k) v u)
  unit_arrives true u v s =
      by_none bs true fresh_turn (forgotten ms d bs sent us rs r (is_rint_kind v.last) m (passed ms d bs sent u us rs r (is_rint_kind v.last) m s))
  unit_arrives false u v s = open_arrives u v s
