-- Document 01, 'What the promises have to say': "a promise that allows one result and one content of the lent memory for each input, also when it refuses".
use Rattle.std.specs.Prelude.{ℕ, ◌≡◌, List}
use seplogic.Ra.Ura.{Ura}
use base.Logic.{SProp, emp}
use prog.Memory.{Memory}
use prog.Routine.{Routine}
use types.Logic.{Logic}
use contract.Lifetimes.{Lfts}
use contract.Monad.{Fun, fact}
use Rattle.std.specs.Borrow.{Bor}
use denote.Triple.Entry.{Args, Res}
use denote.Triple.Clauses.{Ended, Clauses, Lasts, AtExit, at_exit}

-- a contract as it is written, in every model of the program logic
abbrev pub Contract : Ended → Type 2
Contract T = (M : Type 1) (𝓤 : Ura M) (𝓛 : Logic 𝓤) → (Memory → SProp 𝓤) → (Routine → Fun 𝓤) → Clauses 𝓤 T

-- what a contract can say: a fact of the arguments, the result and the parameters at exit
abbrev pub Postcondition : Ended → Type 1
Postcondition T = (κs : Lfts T.signature.lifetimes) → Args T.signature κs → Res T.signature κs → AtExit T κs → Type 0

-- a contract that asks nothing of the caller, so that every input is one, and ensures this fact
abbrev pub plainly : {M : Type 1} (𝓤 : Ura M) (T : Ended) → Postcondition T → Clauses 𝓤 T
plainly 𝓤 T holds κs a = record { ghost = Unit {0}; requires = λ g. emp 𝓤; ensures = λ g z e. fact 𝓤 (holds κs a z e) }

-- the contract as it is written is that one, and says nothing else
abbrev pub Says : (T : Ended) → Contract T → Postcondition T → Type 2
Says T c holds =
    (M : Type 1) (𝓤 : Ura M) (𝓛 : Logic 𝓤) (mem : Memory → SProp 𝓤) (run : Routine → Fun 𝓤) → c M 𝓤 𝓛 mem run ≡ plainly 𝓤 T holds

-- Two outcomes of one call that the promise allows are the same: the results by `Same`, and lent memory, which is what of the parameters can have changed, by its contents ws and ws' at exit.
pub record UniqueBy (T : Ended) (c : Contract T) (Same : (κs : Lfts T.signature.lifetimes) → Res T.signature κs → Res T.signature κs → Type 0) : Type 2 where
  pub holds : Postcondition T
  pub says : Says T c holds
  pub one :
      (κs : Lfts T.signature.lifetimes) (a : Args T.signature κs) (z z' : Res T.signature κs) (ws ws' : Lasts T κs a) → holds κs a z (at_exit T κs a ws) → holds κs a z' (at_exit T κs a ws') → Same κs z z' × (ws ≡ ws')

-- results are the same when they are equal
abbrev pub Unique : (T : Ended) → Contract T → Type 2
Unique T c = UniqueBy T c (λ κs z z'. z ≡ z')

-- A part of what was lent, handed back: the same block of memory, the same offset in it, and the same bytes, so as many. A shared reference's value is just these, so that the same part is an equal value, and has the same machine value, which is the pointer and the length (`same-part-is-equal`, `same-machine-value` in proofs/Once.antt).
abbrev pub SamePart : Bor (List ℕ) → Bor (List ℕ) → Type 0
SamePart r r' = (r.ref_ptr ≡ r'.ref_ptr) × (r.now ≡ r'.now)
