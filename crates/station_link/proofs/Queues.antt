-- What holds of all that is on a line, and a line of which an older part comes before a newer one: kept by loss, damage and noise.
use mathlib.Core.List.{List, [], ◌∷◌, ◌++◌}
use Prim.Native.Nat.{ℕ, zero, suc}
use Rattle.station_link.specs.System.{lost_at, replaced_at, inserted_at, repeated_at}

-- nothing is asked
pub data Fine : Type 0 where
  fine : Fine

pub data All {A : Type 0} (P : A → Type 0) : List A → Type 0 where
  none : All P []
  also : {x : A} {xs : List A} → P x → All P xs → All P (x ∷ xs)

-- first such as are old, then only such as are new
pub data Phases {A : Type 0} (Old New : A → Type 0) : List A → Type 0 where
  only : {xs : List A} → All New xs → Phases Old New xs
  older : {x : A} {xs : List A} → Old x → Phases Old New xs → Phases Old New (x ∷ xs)

module _ {A : Type 0} (P : A → Type 0) where
  pub all-appended : (xs : List A) (w : A) → All P xs → P w → All P (xs ++ w ∷ [])
  all-appended [] w none p = also p none
  all-appended (x ∷ xs) w (also q i) p = also q (all-appended xs w i p)

  pub all_lost : (n : ℕ) (xs : List A) → All P xs → All P (lost_at n xs)
  unfolding lost_at
  all_lost n [] none = none
  all_lost zero (x ∷ xs) (also q i) = i
  all_lost (suc n) (x ∷ xs) (also q i) = also q (all_lost n xs i)

  pub all-repeated : (n : ℕ) (xs : List A) → All P xs → All P (repeated_at n xs)
  unfolding repeated_at
  all-repeated n [] none = none
  all-repeated zero (x ∷ xs) (also q i) = also q (also q i)
  all-repeated (suc n) (x ∷ xs) (also q i) = also q (all-repeated n xs i)

  module _ (w : A) (p : P w) where
    pub all_replaced : (n : ℕ) (xs : List A) → All P xs → All P (replaced_at n w xs)
    unfolding replaced_at
    all_replaced n [] none = none
    all_replaced zero (x ∷ xs) (also q i) = also p i
    all_replaced (suc n) (x ∷ xs) (also q i) = also q (all_replaced n xs i)

    pub all_inserted : (n : ℕ) (xs : List A) → All P xs → All P (inserted_at n w xs)
    unfolding inserted_at
    all_inserted n [] none = also p none
    all_inserted zero (x ∷ xs) i = also p i
    all_inserted (suc n) (x ∷ xs) (also q i) = also q (all_inserted n xs i)

-- what holds of each holds of all by another name
pub all_as : {A : Type 0} (P Q : A → Type 0) → ((x : A) → P x → Q x) → (xs : List A) → All P xs → All Q xs
all_as P Q f [] none = none
all_as P Q f (x ∷ xs) (also p i) = also (f x p) (all_as P Q f xs i)

module _ {A : Type 0} (Old New : A → Type 0) where
  abbrev P : List A → Type 0
  P = Phases Old New

  -- a line of old ones, and one that is new behind them
  pub all_older : (xs : List A) → All Old xs → P xs
  all_older [] none = only none
  all_older (x ∷ xs) (also q i) = older q (all_older xs i)

  pub new_behind : (xs : List A) (w : A) → P xs → New w → P (xs ++ w ∷ [])
  new_behind xs w (only i) p = only (all-appended New xs w i p)
  new_behind (x ∷ xs) w (older q i) p = older q (new_behind xs w i p)

  pub phases_lost : (n : ℕ) (xs : List A) → P xs → P (lost_at n xs)
  unfolding lost_at
  phases_lost n xs (only i) = only (all_lost New n xs i)
  phases_lost zero (x ∷ xs) (older q i) = i
  phases_lost (suc n) (x ∷ xs) (older q i) = older q (phases_lost n xs i)

  pub phases_repeated : (n : ℕ) (xs : List A) → P xs → P (repeated_at n xs)
  unfolding repeated_at
  phases_repeated n xs (only i) = only (all-repeated New n xs i)
  phases_repeated zero (x ∷ xs) (older q i) = older q (older q i)
  phases_repeated (suc n) (x ∷ xs) (older q i) = older q (phases_repeated n xs i)

  module _ (w : A) (o : Old w) (p : New w) where
    pub phases_replaced : (n : ℕ) (xs : List A) → P xs → P (replaced_at n w xs)
    unfolding replaced_at
    phases_replaced n xs (only i) = only (all_replaced New w p n xs i)
    phases_replaced zero (x ∷ xs) (older q i) = older o i
    phases_replaced (suc n) (x ∷ xs) (older q i) = older q (phases_replaced n xs i)

    pub phases_inserted : (n : ℕ) (xs : List A) → P xs → P (inserted_at n w xs)
    unfolding inserted_at
    phases_inserted n xs (only i) = only (all_inserted New w p n xs i)
    phases_inserted zero (x ∷ xs) (older q i) = older o (older q i)
    phases_inserted (suc n) (x ∷ xs) (older q i) = older q (phases_inserted n xs i)
