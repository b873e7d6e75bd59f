-- What a function answers and leaves in what it was lent.
use Rattle.std.specs.Prelude.{List, Bool, cond, ℕ}

-- a refusal, unless the test holds; so refusals stand in the paper's order, the first one first
abbrev pub need : {A : Type 0} → Bool → A → A → A
need test refusal rest = cond test rest refusal

-- what is answered, and what the buffer holds then
pub record Outcome (A : Type 0) : Type 0 where
  pub answer : A
  pub buffer : List ℕ

abbrev pub outcome : {A : Type 0} → A → List ℕ → Outcome A
outcome a b = record { answer = a; buffer = b }

-- what a C function returns, and what the state, the buffer and the report hold then; [] for what it has none of
pub record Called : Type 0 where
  pub number : ℕ
  pub state : List ℕ
  pub buffer : List ℕ
  pub report : List ℕ

abbrev pub called : ℕ → List ℕ → List ℕ → List ℕ → Called
called n s b p = record { number = n; state = s; buffer = b; report = p }
