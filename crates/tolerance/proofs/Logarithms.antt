-- The logarithms that the method in fractions may use, the core's own among them, as one family `Logs δ`: each lies at most δ above
-- the table's, and no later hour has a smaller one. The table's own have δ = 0, admissible ones δ = 1. What relaxation takes of them
-- is the rise over an interval: it is not negative, bounded by the table's last, and within δ of the table's rise. Assumes nothing.
use mathlib.Core.List.{[], ◌∷◌}
use Prim.Native.Nat.{ℕ, ◌+◌, ◌-◌, ◌≤◌}
use native.Mathlib.Omega.{arith}
use lib.Dec.{lit≤}
use Rattle.fraction.specs.Fraction.{Fraction, whole, ◌⊖◌, ◌≼◌, Within}
use Rattle.fraction.proofs.Laws.{≈-refl, ≈-sym, ≼_trans, ≼-resp-≈, whole-⊕}
use Rattle.fraction.proofs.Floors.{whole_order, whole_not_negative, whole_difference}
use Rattle.fraction.proofs.Distances.{within_resp_≈}
use Rattle.fraction.proofs.Certificate.{num, ◌⊞◌, ◌⊟◌, ◌⊑◌, ◌⊢◌, follows}
use Rattle.logarithm.specs.Logarithm.{logarithm, service_life}
use Rattle.logarithm.proofs.Laws.{never_falls, at_service_life}
use Rattle.fields.specs.Quantities.{Quantities}
use Rattle.tolerance.specs.Method.{Choice, Admissible, table_choice}

-- the most that a choice may lie above the table
abbrev pub most_above : ℕ
most_above = 1

-- L of the service life, as `at_service_life` has it
abbrev life_logarithm : ℕ
life_logarithm = 1444

-- the largest rise of the logarithms: from 0 to the last of the table, and what a choice may lie above it
abbrev pub most_rise : ℕ
most_rise = life_logarithm + most_above

-- logarithms at most δ above the table's
pub record Logs (δ : ℕ) (choice : Choice) : Type 0 where
  pub small : δ ≤ most_above
  pub least : (hour : ℕ) → 1 ≤ hour → hour ≤ service_life → whole (logarithm hour) ≼ choice.log hour
  pub most : (hour : ℕ) → 1 ≤ hour → hour ≤ service_life → choice.log hour ≼ whole (logarithm hour + δ)
  pub rises : (hour later : ℕ) → 1 ≤ hour → hour ≤ later → later ≤ service_life → choice.log hour ≼ choice.log later

pub table_logs : {factor second_factor : ℕ → Fraction} → Logs 0 (table_choice factor second_factor)
table_logs = record {
  small = lit≤ tt;
  least = λ hour some life. whole_order (omega arith);
  most = λ hour some life. whole_order (omega arith);
  rises = λ hour later some le life. whole_order (never_falls hour later le);
}

pub admissible_logs : {q : Quantities} {choice : Choice} → Admissible q choice → Logs most_above choice
admissible_logs admissible = record {
  small = lit≤ tt;
  least = admissible.least;
  most = λ hour some life. ≼_trans (admissible.most hour some life) (whole_order (omega arith));
  rises = admissible.rises;
}

-- The logarithms at the two ends of an interval: l₁ and l₂ of the table, a₁ and a₂ of a choice at most δ above it.
pub record Interval (δ l₁ l₂ : ℕ) (a₁ a₂ : Fraction) : Type 0 where
  pub table_rises : l₁ ≤ l₂
  pub table_top : l₂ + δ ≤ most_rise
  pub least₁ : whole l₁ ≼ a₁
  pub most₁ : a₁ ≼ whole (l₁ + δ)
  pub least₂ : whole l₂ ≼ a₂
  pub most₂ : a₂ ≼ whole (l₂ + δ)
  pub rises : a₁ ≼ a₂

pub interval : {δ : ℕ} {choice : Choice} → Logs δ choice → (hour later : ℕ) → 1 ≤ hour → hour ≤ later → later ≤ service_life
    → Interval δ (logarithm hour) (logarithm later) (choice.log hour) (choice.log later)
interval logs hour later some le life =
    let top = rw at_service_life at (never_falls later service_life life) in
    let small = logs.small in
    record {
      table_rises = never_falls hour later le;
      table_top = omega arith;
      least₁ = logs.least hour some (omega arith);
      most₁ = logs.most hour some (omega arith);
      least₂ = logs.least later (omega arith) life;
      most₂ = logs.most later (omega arith) life;
      rises = logs.rises hour later some le life;
    }

module _ {δ l₁ l₂ : ℕ} {a₁ a₂ : Fraction} (i : Interval δ l₁ l₂ a₁ a₂) where
  pub rise_not_negative : whole 0 ≼ a₂ ⊖ a₁
  rise_not_negative = follows (a₁ ∷ a₂ ∷ []) (λ A₁ A₂. A₁ ⊑ A₂ ∷ [] ⊢ num 0 ⊑ A₂ ⊟ A₁) tt i.rises

  pub rise_top : a₂ ⊖ a₁ ≼ whole most_rise
  rise_top = follows (a₁ ∷ a₂ ∷ []) (λ A₁ A₂. num 0 ⊑ A₁ ∷ A₂ ⊑ num most_rise ∷ [] ⊢ A₂ ⊟ A₁ ⊑ num most_rise) tt
      (≼_trans (whole_not_negative l₁) i.least₁) (≼_trans i.most₂ (whole_order i.table_top))

  pub rise_near : Within (whole δ) (whole (l₂ - l₁)) (a₂ ⊖ a₁)
  rise_near = within_resp_≈ (≈-sym (whole_difference i.table_rises)) ≈-refl (record {
    above = follows (whole δ ∷ whole l₁ ∷ whole l₂ ∷ a₁ ∷ a₂ ∷ [])
        (λ E L₁ L₂ A₁ A₂. A₁ ⊑ L₁ ⊞ E ∷ L₂ ⊑ A₂ ∷ [] ⊢ L₂ ⊟ L₁ ⊑ A₂ ⊟ A₁ ⊞ E) tt
        (≼-resp-≈ ≈-refl (whole-⊕ l₁ δ) i.most₁) i.least₂;
    below = follows (whole δ ∷ whole l₁ ∷ whole l₂ ∷ a₁ ∷ a₂ ∷ [])
        (λ E L₁ L₂ A₁ A₂. L₁ ⊑ A₁ ∷ A₂ ⊑ L₂ ⊞ E ∷ [] ⊢ A₂ ⊟ A₁ ⊑ L₂ ⊟ L₁ ⊞ E) tt
        i.least₁ (≼-resp-≈ ≈-refl (whole-⊕ l₂ δ) i.most₂);
  })
