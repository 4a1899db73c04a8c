-- Equality of two expressions made of + and ×, shown by computing: `solve laws values left right tt`.
-- Each side is brought to a polynomial in Horner form, c + x · p with x the first variable and c free of it. The checker compares
-- the two polynomials, and the laws of a commutative semiring carry their equality back to the expressions. The semiring is any
-- record of laws with an equality of its own: naturals here, fractions in Laws.antt. Assumes nothing.
use mathlib.Core.List.{List, [], ◌∷◌}
use mathlib.Core.Path.{◌≡◌, refl, sym, ◌∙◌, ap₂}
use mathlib.Core.Bool.{Bool, true, false, ◌&&◌}
use Prim.Native.Nat.{ℕ, zero, suc, ◌+◌, ◌*◌}
use native.Mathlib.Nat as Nat
use lib.Dec.{T, eqb, eqb→eq}

infixl 60 ◌+ᵉ◌
infixl 70 ◌*ᵉ◌
-- `atom i` is the i-th of a list of values, counted from 0
pub data Expression : Type 0 where
  atom : ℕ → Expression
  number : ℕ → Expression
  ◌+ᵉ◌ : Expression → Expression → Expression
  ◌*ᵉ◌ : Expression → Expression → Expression

-- ---- polynomials

-- `horner c p` is c + x · p: x is the first of the values, c speaks of those after it and p of all of them
pub data Polynomial : Type 0 where
  constant : ℕ → Polynomial
  horner : Polynomial → Polynomial → Polynomial

abbrev pub add_constant : ℕ → Polynomial → Polynomial
add_constant a (constant b) = constant (a + b)
add_constant a (horner c p) = horner (add_constant a c) p

abbrev pub plus : Polynomial → Polynomial → Polynomial
plus (constant a) q = add_constant a q
plus (horner c p) (constant b) = horner (add_constant b c) p
plus (horner c p) (horner d q) = horner (plus c d) (plus p q)

abbrev pub scale : ℕ → Polynomial → Polynomial
scale k (constant b) = constant (k * b)
scale k (horner c p) = horner (scale k c) (scale k p)

-- every coefficient multiplied by `f`, which knows nothing of x
abbrev pub each_coefficient : (Polynomial → Polynomial) → Polynomial → Polynomial
each_coefficient f (constant b) = horner (f (constant b)) (constant 0)
each_coefficient f (horner d q) = horner (f d) (each_coefficient f q)

-- (c + x · p) q = c q + x · (p q)
abbrev pub times : Polynomial → Polynomial → Polynomial
times (constant a) q = scale a q
times (horner c p) q = plus (each_coefficient (times c) q) (horner (constant 0) (times p q))

abbrev pub variable : ℕ → Polynomial
variable zero = horner (constant 0) (constant 1)
variable (suc i) = horner (variable i) (constant 0)

abbrev pub normal : Expression → Polynomial
normal (atom i) = variable i
normal (number k) = constant k
normal (a +ᵉ b) = plus (normal a) (normal b)
normal (a *ᵉ b) = times (normal a) (normal b)

-- the same polynomial, a coefficient that is missing being 0
abbrev pub vanishes : Polynomial → Bool
vanishes (constant a) = eqb a 0
vanishes (horner c p) = vanishes c && vanishes p

abbrev pub is_constant : ℕ → Polynomial → Bool
is_constant a (constant b) = eqb a b
is_constant a (horner c p) = is_constant a c && vanishes p

abbrev pub agree : Polynomial → Polynomial → Bool
agree (constant a) q = is_constant a q
agree (horner c p) (constant b) = is_constant b c && vanishes p
agree (horner c p) (horner d q) = agree c d && agree p q

-- what the checker computes
abbrev pub Same : Expression → Expression → Type 0
Same left right = T (agree (normal left) (normal right))

left_of : (a b : Bool) → T (a && b) → T a
left_of true b t = tt
left_of false b t = t

right_of : (a b : Bool) → T (a && b) → T b
right_of true b t = t
right_of false b t = absurd t

-- ---- the laws

pub record Semiring : Type 1 where
  infix 40 ◌≈◌
  pub Number : Type 0
  pub ◌≈◌ : Number → Number → Type 0
  pub add : Number → Number → Number
  pub mul : Number → Number → Number
  pub numeral : ℕ → Number
  pub reflexive : {x : Number} → x ≈ x
  pub symmetric : {x y : Number} → x ≈ y → y ≈ x
  pub transitive : {x y z : Number} → x ≈ y → y ≈ z → x ≈ z
  pub add_cong : {x y z w : Number} → x ≈ y → z ≈ w → add x z ≈ add y w
  pub mul_cong : {x y z w : Number} → x ≈ y → z ≈ w → mul x z ≈ mul y w
  pub add_comm : (x y : Number) → add x y ≈ add y x
  pub add_assoc : (x y z : Number) → add (add x y) z ≈ add x (add y z)
  pub mul_comm : (x y : Number) → mul x y ≈ mul y x
  pub mul_assoc : (x y z : Number) → mul (mul x y) z ≈ mul x (mul y z)
  pub mul_add : (x y z : Number) → mul x (add y z) ≈ add (mul x y) (mul x z)
  pub zero_add : (x : Number) → add (numeral 0) x ≈ x
  pub zero_mul : (x : Number) → mul (numeral 0) x ≈ numeral 0
  pub one_mul : (x : Number) → mul (numeral 1) x ≈ x
  pub numeral_add : (a b : ℕ) → numeral (a + b) ≈ add (numeral a) (numeral b)
  pub numeral_mul : (a b : ℕ) → numeral (a * b) ≈ mul (numeral a) (numeral b)

-- the first of a list of values, and those after it
abbrev pub first : {A : Type 0} → A → List A → A
first a [] = a
first a (x ∷ values) = x

abbrev pub rest : {A : Type 0} → List A → List A
rest [] = []
rest (x ∷ values) = values

abbrev pub nth : {A : Type 0} → A → ℕ → List A → A
nth a zero values = first a values
nth a (suc i) values = nth a i (rest values)

module _ (S : Semiring) where
  open S use {Number, ◌≈◌, add, mul, numeral, reflexive, symmetric, transitive, add_cong, mul_cong}
  open S use {add_comm, add_assoc, mul_comm, mul_assoc, mul_add, zero_add, zero_mul, one_mul, numeral_add, numeral_mul}

  infix 40 ◌≈◌
  infixr 20 ◌⨾◌
  ◌⨾◌ : {x y z : Number} → x ≈ y → y ≈ z → x ≈ z
  h ⨾ k = transitive h k

  -- what an expression stands for
  abbrev pub value : Expression → List Number → Number
  value (atom i) ρ = nth (numeral 0) i ρ
  value (number k) ρ = numeral k
  value (a +ᵉ b) ρ = add (value a ρ) (value b ρ)
  value (a *ᵉ b) ρ = mul (value a ρ) (value b ρ)

  -- what a polynomial stands for
  abbrev head : List Number → Number
  head ρ = first (numeral 0) ρ

  abbrev eval : Polynomial → List Number → Number
  eval (constant k) ρ = numeral k
  eval (horner c p) ρ = add (eval c (rest ρ)) (mul (head ρ) (eval p ρ))

  add_zero : (x : Number) → add x (numeral 0) ≈ x
  add_zero x = add_comm x (numeral 0) ⨾ zero_add x

  mul_zero : (x : Number) → mul x (numeral 0) ≈ numeral 0
  mul_zero x = mul_comm x (numeral 0) ⨾ zero_mul x

  add_mul : (x y z : Number) → mul (add x y) z ≈ add (mul x z) (mul y z)
  add_mul x y z = mul_comm (add x y) z ⨾ mul_add z x y ⨾ add_cong (mul_comm z x) (mul_comm z y)

  swap : (x y z : Number) → mul x (mul y z) ≈ mul y (mul x z)
  swap x y z = symmetric (mul_assoc x y z) ⨾ mul_cong (mul_comm x y) reflexive ⨾ mul_assoc y x z

  -- (a + b) + (c + d) = (a + c) + (b + d)
  regroup : (a b c d : Number) → add (add a b) (add c d) ≈ add (add a c) (add b d)
  regroup a b c d =
      add_assoc a b (add c d)
      ⨾ add_cong reflexive (symmetric (add_assoc b c d) ⨾ add_cong (add_comm b c) reflexive ⨾ add_assoc c b d)
      ⨾ symmetric (add_assoc a c (add b d))

  -- k c + x (k p) = k (c + x p)
  factor : (k c x p : Number) → add (mul k c) (mul x (mul k p)) ≈ mul k (add c (mul x p))
  factor k c x p = add_cong reflexive (swap x k p) ⨾ symmetric (mul_add k c (mul x p))

  -- ---- the operations on polynomials are what they are called

  eval_add_constant : (a : ℕ) (p : Polynomial) (ρ : List Number) → eval (add_constant a p) ρ ≈ add (numeral a) (eval p ρ)
  eval_add_constant a (constant b) ρ = numeral_add a b
  eval_add_constant a (horner c p) ρ = add_cong (eval_add_constant a c (rest ρ)) reflexive ⨾ add_assoc (numeral a) _ _

  eval_plus : (p q : Polynomial) (ρ : List Number) → eval (plus p q) ρ ≈ add (eval p ρ) (eval q ρ)
  eval_plus (constant a) q ρ = eval_add_constant a q ρ
  eval_plus (horner c p) (constant b) ρ = eval_add_constant b (horner c p) ρ ⨾ add_comm (numeral b) _
  eval_plus (horner c p) (horner d q) ρ =
      add_cong (eval_plus c d (rest ρ)) (mul_cong reflexive (eval_plus p q ρ) ⨾ mul_add (head ρ) _ _)
      ⨾ regroup (eval c (rest ρ)) (eval d (rest ρ)) (mul (head ρ) (eval p ρ)) (mul (head ρ) (eval q ρ))

  eval_scale : (k : ℕ) (p : Polynomial) (ρ : List Number) → eval (scale k p) ρ ≈ mul (numeral k) (eval p ρ)
  eval_scale k (constant b) ρ = numeral_mul k b
  eval_scale k (horner c p) ρ =
      add_cong (eval_scale k c (rest ρ)) (mul_cong reflexive (eval_scale k p ρ))
      ⨾ factor (numeral k) (eval c (rest ρ)) (head ρ) (eval p ρ)

  eval_each_coefficient : (f : Polynomial → Polynomial) (k : Number) (ρ : List Number) →
      ((d : Polynomial) → eval (f d) (rest ρ) ≈ mul k (eval d (rest ρ))) →
      (q : Polynomial) → eval (each_coefficient f q) ρ ≈ mul k (eval q ρ)
  eval_each_coefficient f k ρ multiplies (constant b) =
      add_cong (multiplies (constant b)) (mul_zero (head ρ)) ⨾ add_zero (mul k (numeral b))
  eval_each_coefficient f k ρ multiplies (horner d q) =
      add_cong (multiplies d) (mul_cong reflexive (eval_each_coefficient f k ρ multiplies q))
      ⨾ factor k (eval d (rest ρ)) (head ρ) (eval q ρ)

  eval_times : (p q : Polynomial) (ρ : List Number) → eval (times p q) ρ ≈ mul (eval p ρ) (eval q ρ)
  eval_times (constant a) q ρ = eval_scale a q ρ
  eval_times (horner c p) q ρ =
      eval_plus (each_coefficient (times c) q) (horner (constant 0) (times p q)) ρ
      ⨾ add_cong
      (eval_each_coefficient (times c) (eval c (rest ρ)) ρ (λ d. eval_times c d (rest ρ)) q)
      (zero_add _ ⨾ mul_cong reflexive (eval_times p q ρ) ⨾ symmetric (mul_assoc (head ρ) (eval p ρ) (eval q ρ)))
      ⨾ symmetric (add_mul (eval c (rest ρ)) (mul (head ρ) (eval p ρ)) (eval q ρ))

  eval_variable : (i : ℕ) (ρ : List Number) → eval (variable i) ρ ≈ nth (numeral 0) i ρ
  eval_variable zero ρ = zero_add _ ⨾ mul_comm (head ρ) (numeral 1) ⨾ one_mul (head ρ)
  eval_variable (suc i) ρ = add_cong (eval_variable i (rest ρ)) (mul_zero (head ρ)) ⨾ add_zero _

  eval_normal : (e : Expression) (ρ : List Number) → eval (normal e) ρ ≈ value e ρ
  eval_normal (atom i) ρ = eval_variable i ρ
  eval_normal (number k) ρ = reflexive
  eval_normal (a +ᵉ b) ρ = eval_plus (normal a) (normal b) ρ ⨾ add_cong (eval_normal a ρ) (eval_normal b ρ)
  eval_normal (a *ᵉ b) ρ = eval_times (normal a) (normal b) ρ ⨾ mul_cong (eval_normal a ρ) (eval_normal b ρ)

  -- ---- polynomials that agree stand for the same

  numeral_agree : (a b : ℕ) → T (eqb a b) → numeral a ≈ numeral b
  numeral_agree a b t = equal (eqb→eq a b t)
    where
      equal : a ≡ b → numeral a ≈ numeral b
      equal e = rw e reflexive

  -- x · p is 0 where p is
  nothing : (x : Number) {p : Number} → p ≈ numeral 0 → mul x p ≈ numeral 0
  nothing x h = mul_cong reflexive h ⨾ mul_zero x

  eval_vanishes : (p : Polynomial) (ρ : List Number) → T (vanishes p) → eval p ρ ≈ numeral 0
  eval_vanishes (constant a) ρ t = numeral_agree a 0 t
  eval_vanishes (horner c p) ρ t =
      add_cong (eval_vanishes c (rest ρ) (left_of (vanishes c) _ t))
      (nothing (head ρ) (eval_vanishes p ρ (right_of (vanishes c) _ t)))
      ⨾ zero_add (numeral 0)

  eval_is_constant : (a : ℕ) (p : Polynomial) (ρ : List Number) → T (is_constant a p) → eval p ρ ≈ numeral a
  eval_is_constant a (constant b) ρ t = symmetric (numeral_agree a b t)
  eval_is_constant a (horner c p) ρ t =
      add_cong (eval_is_constant a c (rest ρ) (left_of (is_constant a c) _ t))
      (nothing (head ρ) (eval_vanishes p ρ (right_of (is_constant a c) _ t)))
      ⨾ add_zero (numeral a)

  eval_agree : (p q : Polynomial) (ρ : List Number) → T (agree p q) → eval p ρ ≈ eval q ρ
  eval_agree (constant a) q ρ t = symmetric (eval_is_constant a q ρ t)
  eval_agree (horner c p) (constant b) ρ t = eval_is_constant b (horner c p) ρ t
  eval_agree (horner c p) (horner d q) ρ t =
      add_cong (eval_agree c d (rest ρ) (left_of (agree c d) _ t))
      (mul_cong reflexive (eval_agree p q ρ (right_of (agree c d) _ t)))

  -- two expressions with the same polynomial are equal, whatever the values are
  pub solve : (ρ : List Number) (left right : Expression) → Same left right → value left ρ ≈ value right ρ
  solve ρ left right t =
      symmetric (eval_normal left ρ) ⨾ eval_agree (normal left) (normal right) ρ t ⨾ eval_normal right ρ

-- ---- the naturals

abbrev pub naturals : Semiring
naturals = record {
  Number = ℕ;
  ◌≈◌ = ◌≡◌;
  add = ◌+◌;
  mul = ◌*◌;
  numeral = λ k. k;
  reflexive = refl;
  symmetric = sym;
  transitive = ◌∙◌;
  add_cong = ap₂ ◌+◌;
  mul_cong = ap₂ ◌*◌;
  add_comm = Nat.add_comm;
  add_assoc = Nat.add_assoc;
  mul_comm = Nat.mul_comm;
  mul_assoc = Nat.mul_assoc;
  mul_add = Nat.mul-add;
  zero_add = Nat.zero-add;
  zero_mul = Nat.zero-mul;
  one_mul = Nat.one-mul;
  numeral_add = λ a b. refl;
  numeral_mul = λ a b. refl;
}
