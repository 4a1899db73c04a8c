-- How an order between fractions is proved. `follows` shows a ≼ b from hints l ≼ r where a + Σ r and b + Σ l are the same
-- polynomial, which the checker computes: the author says which hints are wanted, and which of them are multiplied.
-- An example: from x ≼ y + e, y ≼ z + f and 0 ≼ k it follows that k x ≼ k z + k (e + f).
--
--   follows (e ∷ f ∷ k ∷ x ∷ y ∷ z ∷ [])
--     (λ E F K X Y Z. (num 0 ⊑ K) ⊛ (X ⊑ Y ⊞ E) ∷ (num 0 ⊑ K) ⊛ (Y ⊑ Z ⊞ F) ∷ [] ⊢ K ⊠ X ⊑ K ⊠ Z ⊞ K ⊠ (E ⊞ F)) tt
--     (k≥0, x≤y) (k≥0, y≤z)
--
-- First the fractions that are spoken of, and λ with a name for each. Then hints ⊢ goal over the names: ⊞ ⊟ ⊠ stand for ⊕ ⊖ ⊗,
-- and `num n` for `whole n`. Then `tt`, which is accepted if the polynomials are the same. Last, for each hint, its proof:
--   A ⊑ B     a proof of a ≼ b
--   A ≐ B     a proof of a ≈ b, used as a ≼ b
--   h ⊛ k     a pair, a proof of h and one of k. For l ≼ r and l' ≼ r' the hint is that (r − l) (r' − l') is not negative.
-- A hint that is wanted twice stands there twice. Of `larger` it knows nothing: go by `larger_cases` first.
-- `identity` shows a ≈ b of two that are the same polynomial. Assumes nothing.
use mathlib.Core.List.{List, [], ◌∷◌}
use Prim.Native.Nat.{ℕ, ◌+◌}
use Rattle.fraction.specs.Fraction.{Fraction, whole, ◌⊕◌, ◌⊖◌, ◌⊗◌, ◌≼◌}
use Rattle.fraction.specs.Equality.{◌≈◌}
use Rattle.fraction.proofs.Polynomial.{Expression, atom, number, ◌+ᵉ◌, ◌*ᵉ◌, Same, nth, value, solve}
use Rattle.fraction.proofs.Laws.{fractions, ≈-refl, ≈-sym, ◌⨾◌, ≼_refl, ≼_trans, ≼-of-≈, ≼-resp-≈}
use Rattle.fraction.proofs.Laws.{⊕-comm, ⊕-assoc, ⊕-cong, ⊕-mono, ⊕-mono-left, ⊕-cancel, ⊕-cancel-≈, zero-⊕}
use Rattle.fraction.proofs.Laws.{⊗-cong, ⊗-mono-left, ⊖-⊕}

infixl 75 ◌⊞◌ ◌⊟◌
infixl 80 ◌⊠◌
-- an expression with differences
pub data Term : Type 0 where
  var : ℕ → Term
  num : ℕ → Term
  ◌⊞◌ : Term → Term → Term
  ◌⊟◌ : Term → Term → Term
  ◌⊠◌ : Term → Term → Term

abbrev pub meaning : Term → List Fraction → Fraction
meaning (var i) ρ = nth (whole 0) i ρ
meaning (num k) ρ = whole k
meaning (a ⊞ b) ρ = meaning a ρ ⊕ meaning b ρ
meaning (a ⊟ b) ρ = meaning a ρ ⊖ meaning b ρ
meaning (a ⊠ b) ρ = meaning a ρ ⊗ meaning b ρ

-- ---- a term is the difference of two expressions that have none: what is added, and what is taken off

abbrev mutual
  added : Term → Expression
  added (var i) = atom i
  added (num k) = number k
  added (a ⊞ b) = added a +ᵉ added b
  added (a ⊟ b) = added a +ᵉ taken b
  added (a ⊠ b) = added a *ᵉ added b +ᵉ taken a *ᵉ taken b

  taken : Term → Expression
  taken (var i) = number 0
  taken (num k) = number 0
  taken (a ⊞ b) = taken a +ᵉ taken b
  taken (a ⊟ b) = taken a +ᵉ added b
  taken (a ⊠ b) = added a *ᵉ taken b +ᵉ taken a *ᵉ added b

-- x is g − l
record Balance (x g l : Fraction) : Type 0 where
  balanced : x ⊕ l ≈ g

-- sum, difference and product of x = g − l and y = h − m
module _ {x y g h l m : Fraction} (p : Balance x g l) (q : Balance y h m) where
  x+l : x ⊕ l ≈ g
  x+l = p.balanced

  y+m : y ⊕ m ≈ h
  y+m = q.balanced

  balance_sum : Balance (x ⊕ y) (g ⊕ h) (l ⊕ m)
  balance_sum = record {
    balanced =
        solve fractions (x ∷ y ∷ l ∷ m ∷ [])
        (atom 0 +ᵉ atom 1 +ᵉ (atom 2 +ᵉ atom 3)) (atom 0 +ᵉ atom 2 +ᵉ (atom 1 +ᵉ atom 3)) tt
        ⨾ ⊕-cong x+l y+m;
  }

  balance_difference : Balance (x ⊖ y) (g ⊕ m) (l ⊕ h)
  balance_difference = record {
    balanced =
        ⊕-cong ≈-refl (⊕-cong ≈-refl (≈-sym y+m))
        ⨾ solve fractions (x ⊖ y ∷ y ∷ l ∷ m ∷ [])
        (atom 0 +ᵉ (atom 2 +ᵉ (atom 1 +ᵉ atom 3))) (atom 0 +ᵉ atom 1 +ᵉ atom 2 +ᵉ atom 3) tt
        ⨾ ⊕-cong (⊕-cong (⊖-⊕ x y) ≈-refl ⨾ x+l) ≈-refl;
  }

  balance_product : Balance (x ⊗ y) (g ⊗ h ⊕ l ⊗ m) (g ⊗ m ⊕ l ⊗ h)
  balance_product = record {
    balanced =
        ⊕-cong ≈-refl (⊕-cong (⊗-cong (≈-sym x+l) ≈-refl) (⊗-cong ≈-refl (≈-sym y+m)))
        ⨾ solve fractions (x ∷ y ∷ l ∷ m ∷ [])
        (atom 0 *ᵉ atom 1 +ᵉ ((atom 0 +ᵉ atom 2) *ᵉ atom 3 +ᵉ atom 2 *ᵉ (atom 1 +ᵉ atom 3)))
        ((atom 0 +ᵉ atom 2) *ᵉ (atom 1 +ᵉ atom 3) +ᵉ atom 2 *ᵉ atom 3) tt
        ⨾ ⊕-cong (⊗-cong x+l y+m) ≈-refl;
  }

  -- x and y are equal where g + m and h + l are
  balance_same : g ⊕ m ≈ h ⊕ l → x ≈ y
  balance_same e = ⊕-cancel-≈ (l ⊕ m)
      (≈-sym (⊕-assoc x l m) ⨾ ⊕-cong x+l ≈-refl ⨾ e ⨾ ⊕-cong (≈-sym y+m) ≈-refl ⨾ ⊕-assoc y m l ⨾ ⊕-cong ≈-refl (⊕-comm m l))

nothing_taken : (x : Fraction) → Balance x x (whole 0)
nothing_taken x = record { balanced = solve fractions (x ∷ []) (atom 0 +ᵉ number 0) (atom 0) tt }

balance : (t : Term) (ρ : List Fraction) → Balance (meaning t ρ) (value fractions (added t) ρ) (value fractions (taken t) ρ)
balance (var i) ρ = nothing_taken (nth (whole 0) i ρ)
balance (num k) ρ = nothing_taken (whole k)
balance (a ⊞ b) ρ = balance_sum (balance a ρ) (balance b ρ)
balance (a ⊟ b) ρ = balance_difference (balance a ρ) (balance b ρ)
balance (a ⊠ b) ρ = balance_product (balance a ρ) (balance b ρ)

-- what the checker computes
abbrev pub SameTerm : Term → Term → Type 0
SameTerm a b = Same (added a +ᵉ taken b) (added b +ᵉ taken a)

same_meaning : (ρ : List Fraction) (a b : Term) → SameTerm a b → meaning a ρ ≈ meaning b ρ
same_meaning ρ a b t =
    balance_same (balance a ρ) (balance b ρ) (solve fractions ρ (added a +ᵉ taken b) (added b +ᵉ taken a) t)

-- ---- names for the fractions that are spoken of

-- an A over a name for each of them
abbrev pub Speaking : Type 0 → List Fraction → Type 0
Speaking A [] = A
Speaking A (x ∷ ρ) = Term → Speaking A ρ

-- the names are the variables from the k-th on
abbrev pub named : (A : Type 0) (k : ℕ) (ρ : List Fraction) → Speaking A ρ → A
named A k [] a = a
named A k (x ∷ ρ) f = named A (k + 1) ρ (f (var k))

-- ---- claims

infix 70 ◌⊑◌ ◌≐◌
infixl 68 ◌⊛◌
infix 10 ◌⊢◌
pub data Hint : Type 0 where
  ◌⊑◌ : Term → Term → Hint
  ◌≐◌ : Term → Term → Hint
  ◌⊛◌ : Hint → Hint → Hint

pub data Claim : Type 0 where
  ◌⊢◌ : List Hint → Hint → Claim

-- the two sides of the order that a hint gives: (r − l) (r' − l') ≥ 0 is l r' + r l' ≼ l l' + r r'
abbrev mutual
  pub low : Hint → Term
  low (a ⊑ b) = a
  low (a ≐ b) = a
  low (h ⊛ k) = low h ⊠ high k ⊞ high h ⊠ low k

  pub high : Hint → Term
  high (a ⊑ b) = b
  high (a ≐ b) = b
  high (h ⊛ k) = low h ⊠ low k ⊞ high h ⊠ high k

-- what is to be shown of a hint
abbrev pub Given : List Fraction → Hint → Type 0
Given ρ (a ⊑ b) = meaning a ρ ≼ meaning b ρ
Given ρ (a ≐ b) = meaning a ρ ≈ meaning b ρ
Given ρ (h ⊛ k) = Given ρ h × Given ρ k

-- G where each hint is shown
abbrev pub From : List Fraction → List Hint → Type 0 → Type 0
From ρ [] G = G
From ρ (h ∷ hints) G = Given ρ h → From ρ hints G

abbrev pub Holds : List Fraction → Claim → Type 0
Holds ρ (hints ⊢ goal) = From ρ hints (meaning (low goal) ρ ≼ meaning (high goal) ρ)

-- a term and the upper sides of all hints; and the lower sides
abbrev pub plus_high : List Hint → Term → Term
plus_high [] t = t
plus_high (h ∷ hints) t = plus_high hints (t ⊞ high h)

abbrev pub plus_low : List Hint → Term → Term
plus_low [] t = t
plus_low (h ∷ hints) t = plus_low hints (t ⊞ low h)

-- what the checker computes
abbrev pub Certified : Claim → Type 0
Certified (hints ⊢ goal) = SameTerm (plus_high hints (low goal)) (plus_low hints (high goal))

-- ---- the two provers

pub identity : (ρ : List Fraction) (claim : Speaking Hint ρ) →
    SameTerm (low (named Hint 0 ρ claim)) (high (named Hint 0 ρ claim)) →
    meaning (low (named Hint 0 ρ claim)) ρ ≈ meaning (high (named Hint 0 ρ claim)) ρ
identity ρ claim t = same_meaning ρ (low (named Hint 0 ρ claim)) (high (named Hint 0 ρ claim)) t

-- (b − a) (d − c) ≥ 0
pub ⊗-products : {a b c d : Fraction} → a ≼ b → c ≼ d → a ⊗ d ⊕ b ⊗ c ≼ a ⊗ c ⊕ b ⊗ d
⊗-products {a} {b} {c} {d} h k = ≼-resp-≈
    (identity (a ∷ b ∷ c ∷ d ∷ []) (λ A B C D. C ⊠ (B ⊟ A) ⊞ A ⊠ (C ⊞ D) ≐ A ⊠ D ⊞ B ⊠ C) tt)
    (identity (a ∷ b ∷ c ∷ d ∷ []) (λ A B C D. D ⊠ (B ⊟ A) ⊞ A ⊠ (C ⊞ D) ≐ A ⊠ C ⊞ B ⊠ D) tt)
    (⊕-mono-left (a ⊗ (c ⊕ d)) (⊗-mono-left (b ⊖ a) rises k))
  where
    rises : whole 0 ≼ b ⊖ a
    rises = ⊕-cancel a (≼-resp-≈ (≈-sym (zero-⊕ a)) (≈-sym (⊖-⊕ b a)) h)

-- each hint holds as an order
holds : (ρ : List Fraction) (h : Hint) → Given ρ h → meaning (low h) ρ ≼ meaning (high h) ρ
holds ρ (a ⊑ b) p = p
holds ρ (a ≐ b) p = ≼-of-≈ p
holds ρ (h ⊛ k) p = ⊗-products (holds ρ h p.0) (holds ρ k p.1)

-- from a + Σ r ≈ b + Σ l and each l ≼ r: a ≼ b
discharge : (ρ : List Fraction) (hints : List Hint) (a b : Term) (G : Type 0) → (meaning a ρ ≼ meaning b ρ → G) →
    meaning (plus_high hints a) ρ ≈ meaning (plus_low hints b) ρ → From ρ hints G
discharge ρ [] a b G conclude e = conclude (≼-of-≈ e)
discharge ρ (h ∷ hints) a b G conclude e = λ p. discharge ρ hints (a ⊞ high h) (b ⊞ low h) G
    (λ q. conclude (⊕-cancel (meaning (high h) ρ) (≼_trans q (⊕-mono ≼_refl (holds ρ h p))))) e

certified : (ρ : List Fraction) (claim : Claim) → Certified claim → Holds ρ claim
certified ρ (hints ⊢ goal) t = discharge ρ hints (low goal) (high goal) _ (λ p. p)
    (same_meaning ρ (plus_high hints (low goal)) (plus_low hints (high goal)) t)

pub follows : (ρ : List Fraction) (claim : Speaking Claim ρ) →
    Certified (named Claim 0 ρ claim) → Holds ρ (named Claim 0 ρ claim)
follows ρ claim t = certified ρ (named Claim 0 ρ claim) t
