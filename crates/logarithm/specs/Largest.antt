-- The promise rests on it. The largest number that passes a test: so document 01 says L(h), and document 02, W5, the drop at the jack.
use Rattle.std.specs.Prelude.{ℕ, zero, suc, Bool, cond}

-- the largest number up to `most` that passes, and 0 where none above 0 does
unfoldable pub largest_up_to : ℕ → (ℕ → Bool) → ℕ
largest_up_to zero test = 0
largest_up_to (suc most) test = cond (test (suc most)) (suc most) (largest_up_to most test)
