-- A rule of a table at each of its entries, from one test that is computed over all of them: the test is a conjunction, entry
-- after entry, and an entry's part is taken out of it by recursion along the list. Assumes nothing.
use mathlib.Core.Path.{◌∙◌, subst, sym}
use mathlib.Core.Bool.{Bool, true, ◌&&◌}
use mathlib.Core.List.{List, [], ◌∷◌}
use Prim.Native.Nat.{ℕ, zero, suc, ◌+◌, ◌<◌}
use native.Mathlib.Nat.{add-zero, zero-add, add-suc, suc-add, le_of_suc-le-suc, not-suc-le-zero}
use lib.Dec.{T}
use lib.Ieee.Fits.{and_l, and_r}
use lib.ListN.{length, get_or}

-- the test passes at each entry with its place, counted from `place`
abbrev pub every : (ℕ → ℕ → Bool) → ℕ → List ℕ → Bool
every test place [] = true
every test place (x ∷ xs) = test place x && every test (suc place) xs

from : (test : ℕ → ℕ → Bool) (place : ℕ) (xs : List ℕ) → T (every test place xs)
    → (k : ℕ) → k < length xs → T (test (place + k) (get_or xs k 0))
from test place [] t k h = absurd (not-suc-le-zero h)
from test place (x ∷ xs) t zero h = subst (λ (i : ℕ). T (test i x)) (sym (add-zero place)) (and_l (test place x) (every test (suc place) xs) t)
from test place (x ∷ xs) t (suc k) h =
    subst (λ (i : ℕ). T (test i (get_or xs k 0))) (suc-add place k ∙ sym (add-suc place k))
    (from test (suc place) xs (and_r (test place x) (every test (suc place) xs) t) k (le_of_suc-le-suc h))

pub entry : (test : ℕ → ℕ → Bool) (xs : List ℕ) → T (every test 0 xs) → (k : ℕ) → k < length xs → T (test k (get_or xs k 0))
entry test xs t k h = subst (λ (i : ℕ). T (test i (get_or xs k 0))) (zero-add k) (from test 0 xs t k h)
