-- Loss parts that grow slowly, and why a step that takes them off brings no two stresses further apart.
-- A part a has slope p if 0 ≼ a(x) − a(y) ≼ p (x − y) for stresses y ≼ x. Where the slopes of a step's parts sum to at most 2,
-- what is left of x − y lies between −(x − y) and x − y: the step may swap two stresses, and brings them no further apart.
-- Creep and shortening are multiples of a hinge, the larger of a line and a constant; relaxation is a multiple of the stress
-- times a hinge. Assumes nothing.
use mathlib.Core.List.{[], ◌∷◌}
use mathlib.Core.Logic.{⊎_elim}
use Rattle.fraction.specs.Fraction.{Fraction, whole, ◌⊕◌, ◌⊖◌, ◌⊗◌, ◌≼◌, larger, Within}
use Rattle.fraction.specs.Equality.{◌≈◌}
use Rattle.fraction.proofs.Laws.{≈-refl, ≼_refl, ≼_trans, ≼-resp-≈, ≼-total, ⊕-cong, ⊕-mono, ⊗-mono-left}
use Rattle.fraction.proofs.Laws.{larger_cases, larger_left, larger_right, larger_least, larger_mono}
use Rattle.fraction.proofs.Certificate.{num, ◌⊞◌, ◌⊟◌, ◌⊠◌, ◌⊑◌, ◌⊛◌, ◌⊢◌, follows}
use Rattle.fraction.proofs.Distances.{within_sym}

-- a part that is ax at the stress x and ay at the stress y, which is not above x: 0 ≼ ax − ay ≼ p (x − y)
pub record Slow (p ax ay x y : Fraction) : Type 0 where
  pub rises : ay ≼ ax
  pub slope : ax ⊕ p ⊗ y ≼ ay ⊕ p ⊗ x

-- slope p at all stresses up to `most`
abbrev pub SlowTo : Fraction → Fraction → (Fraction → Fraction) → Type 0
SlowTo most p a = (x y : Fraction) → y ≼ x → x ≼ most → Slow p (a x) (a y) x y

-- ---- laws of slopes

-- what does not depend on the stress
pub slow_constant : (s x y : Fraction) → Slow (whole 0) s s x y
slow_constant s x y = record {
  rises = ≼_refl;
  slope = follows (s ∷ x ∷ y ∷ []) (λ S X Y. [] ⊢ S ⊞ num 0 ⊠ Y ⊑ S ⊞ num 0 ⊠ X) tt;
}

pub slow_sum : {p q ax ay bx by x y : Fraction} → Slow p ax ay x y → Slow q bx by x y → Slow (p ⊕ q) (ax ⊕ bx) (ay ⊕ by) x y
slow_sum {p} {q} {ax} {ay} {bx} {by} {x} {y} a b = record {
  rises = ⊕-mono a.rises b.rises;
  slope = follows (p ∷ q ∷ ax ∷ ay ∷ bx ∷ by ∷ x ∷ y ∷ [])
      (λ P Q AX AY BX BY X Y.
      AX ⊞ P ⊠ Y ⊑ AY ⊞ P ⊠ X ∷ BX ⊞ Q ⊠ Y ⊑ BY ⊞ Q ⊠ X ∷ []
      ⊢ AX ⊞ BX ⊞ (P ⊞ Q) ⊠ Y ⊑ AY ⊞ BY ⊞ (P ⊞ Q) ⊠ X) tt
      a.slope b.slope;
}

-- from ax by way of an m to ay
slow_chain : {p q ax m ay x y : Fraction} → Slow p ax m x y → Slow q m ay x y → Slow (p ⊕ q) ax ay x y
slow_chain {p} {q} {ax} {m} {ay} {x} {y} a b = record {
  rises = ≼_trans b.rises a.rises;
  slope = follows (p ∷ q ∷ ax ∷ m ∷ ay ∷ x ∷ y ∷ [])
      (λ P Q AX M AY X Y.
      AX ⊞ P ⊠ Y ⊑ M ⊞ P ⊠ X ∷ M ⊞ Q ⊠ Y ⊑ AY ⊞ Q ⊠ X ∷ [] ⊢ AX ⊞ (P ⊞ Q) ⊠ Y ⊑ AY ⊞ (P ⊞ Q) ⊠ X) tt
      a.slope b.slope;
}

-- w times a part of slope κ has slope p where w κ ≼ p
pub slow_scaled : {κ ax ay x y : Fraction} (w p : Fraction) → whole 0 ≼ w → w ⊗ κ ≼ p → y ≼ x →
    Slow κ ax ay x y → Slow p (w ⊗ ax) (w ⊗ ay) x y
slow_scaled {κ} {ax} {ay} {x} {y} w p w≥0 wκ≤p y≤x a = record {
  rises = follows (w ∷ ax ∷ ay ∷ [])
      (λ W AX AY. (num 0 ⊑ W) ⊛ (AY ⊑ AX) ∷ [] ⊢ W ⊠ AY ⊑ W ⊠ AX) tt (w≥0, a.rises);
  slope = follows (w ∷ κ ∷ p ∷ ax ∷ ay ∷ x ∷ y ∷ [])
      (λ W K P AX AY X Y.
      (num 0 ⊑ W) ⊛ (AX ⊞ K ⊠ Y ⊑ AY ⊞ K ⊠ X) ∷ (W ⊠ K ⊑ P) ⊛ (Y ⊑ X) ∷ []
      ⊢ W ⊠ AX ⊞ P ⊠ Y ⊑ W ⊠ AY ⊞ P ⊠ X) tt
      (w≥0, a.slope) (wκ≤p, y≤x);
}

-- equals for the values of the part
pub slow_resp_≈ : {p ax ax' ay ay' x y : Fraction} → ax ≈ ax' → ay ≈ ay' → Slow p ax ay x y → Slow p ax' ay' x y
slow_resp_≈ e f a = record {
  rises = ≼-resp-≈ f e a.rises;
  slope = ≼-resp-≈ (⊕-cong e ≈-refl) (⊕-cong f ≈-refl) a.slope;
}

-- ---- the hinge: z κ − g, and c at the least

abbrev pub hinge : Fraction → Fraction → Fraction → Fraction → Fraction
hinge κ g c z = larger (z ⊗ κ ⊖ g) c

pub hinge_slow : (κ g c x y : Fraction) → whole 0 ≼ κ → y ≼ x → Slow κ (hinge κ g c x) (hinge κ g c y) x y
hinge_slow κ g c x y κ≥0 y≤x = record {
  rises = larger_mono
      (follows (κ ∷ g ∷ x ∷ y ∷ []) (λ K G X Y. (num 0 ⊑ K) ⊛ (Y ⊑ X) ∷ [] ⊢ Y ⊠ K ⊟ G ⊑ X ⊠ K ⊟ G) tt (κ≥0, y≤x))
      ≼_refl;
  slope = larger_cases (x ⊗ κ ⊖ g) c (λ m. m ⊕ κ ⊗ y ≼ hinge κ g c y ⊕ κ ⊗ x)
      (λ _. follows (κ ∷ c ∷ x ∷ y ∷ hinge κ g c y ∷ [])
      (λ K C X Y M. C ⊑ M ∷ (num 0 ⊑ K) ⊛ (Y ⊑ X) ∷ [] ⊢ C ⊞ K ⊠ Y ⊑ M ⊞ K ⊠ X) tt
      (larger_right (y ⊗ κ ⊖ g) c) (κ≥0, y≤x))
      (λ _. follows (κ ∷ g ∷ x ∷ y ∷ hinge κ g c y ∷ [])
      (λ K G X Y M. Y ⊠ K ⊟ G ⊑ M ∷ [] ⊢ X ⊠ K ⊟ G ⊞ K ⊠ Y ⊑ M ⊞ K ⊠ X) tt
      (larger_left (y ⊗ κ ⊖ g) c));
}

-- w times a hinge: creep, and shortening
pub scaled_hinge_slow : (w κ g c p x y : Fraction) → whole 0 ≼ w → whole 0 ≼ κ → w ⊗ κ ≼ p → y ≼ x →
    Slow p (w ⊗ hinge κ g c x) (w ⊗ hinge κ g c y) x y
scaled_hinge_slow w κ g c p x y w≥0 κ≥0 wκ≤p y≤x = slow_scaled w p w≥0 wκ≤p y≤x (hinge_slow κ g c x y κ≥0 y≤x)

-- a bound of z κ, and of c + g, is a bound of the hinge and g together
pub hinge_top : (κ g c t z : Fraction) → c ⊕ g ≼ t → z ⊗ κ ≼ t → hinge κ g c z ⊕ g ≼ t
hinge_top κ g c t z flat steep = larger_cases (z ⊗ κ ⊖ g) c (λ m. m ⊕ g ≼ t) (λ _. flat)
    (λ _. follows (κ ∷ g ∷ t ∷ z ∷ []) (λ K G T Z. Z ⊠ K ⊑ T ∷ [] ⊢ Z ⊠ K ⊟ G ⊞ G ⊑ T) tt steep)

-- ---- relaxation: l times the stress times a hinge

-- With m the hinge, x m(x) − y m(y) is x (m(x) − m(y)) and (x − y) m(y) together. The first has slope t: where x is not negative
-- because m has slope r and x r ≼ t, and below 0 because there m stays at c. The second has slope t − g, which m does not pass.
module _ (r g c t x y : Fraction) (r≥0 : whole 0 ≼ r) (g≥0 : whole 0 ≼ g) (c≥0 : whole 0 ≼ c) (c+g≤t : c ⊕ g ≼ t)
    (y≤x : y ≼ x) (xr≤t : x ⊗ r ≼ t) where
  abbrev mx : Fraction
  mx = hinge r g c x

  abbrev my : Fraction
  my = hinge r g c y

  m_slow : Slow r mx my x y
  m_slow = hinge_slow r g c x y r≥0 y≤x

  c≤my : c ≼ my
  c≤my = larger_right (y ⊗ r ⊖ g) c

  growth_above_0 : whole 0 ≼ x → Slow t (x ⊗ mx) (x ⊗ my) x y
  growth_above_0 x≥0 = slow_scaled x t x≥0 xr≤t y≤x m_slow

  growth_below_0 : x ≼ whole 0 → Slow t (x ⊗ mx) (x ⊗ my) x y
  growth_below_0 x≤0 = record {
    rises = follows (x ∷ mx ∷ my ∷ [])
        (λ X MX MY. (X ⊑ num 0) ⊛ (MX ⊑ MY) ∷ [] ⊢ X ⊠ MY ⊑ X ⊠ MX) tt (x≤0, ≼_trans flat c≤my);
    slope = follows (t ∷ x ∷ y ∷ mx ∷ my ∷ [])
        (λ T X Y MX MY. (X ⊑ num 0) ⊛ (MY ⊑ MX) ∷ (num 0 ⊑ T) ⊛ (Y ⊑ X) ∷ [] ⊢ X ⊠ MX ⊞ T ⊠ Y ⊑ X ⊠ MY ⊞ T ⊠ X) tt
        (x≤0, m_slow.rises) (t≥0, y≤x);
  }
    where
      t≥0 : whole 0 ≼ t
      t≥0 = follows (c ∷ g ∷ t ∷ []) (λ C G T. num 0 ⊑ C ∷ num 0 ⊑ G ∷ C ⊞ G ⊑ T ∷ [] ⊢ num 0 ⊑ T) tt c≥0 g≥0 c+g≤t

      flat : mx ≼ c
      flat = larger_least
          (follows (r ∷ g ∷ c ∷ x ∷ [])
          (λ R G C X. (num 0 ⊑ R) ⊛ (X ⊑ num 0) ∷ num 0 ⊑ G ∷ num 0 ⊑ C ∷ [] ⊢ X ⊠ R ⊟ G ⊑ C) tt (r≥0, x≤0) g≥0 c≥0)
          ≼_refl

  remainder : Slow (t ⊖ g) (x ⊗ my) (y ⊗ my) x y
  remainder = record {
    rises = follows (x ∷ y ∷ my ∷ []) (λ X Y M. (Y ⊑ X) ⊛ (num 0 ⊑ M) ∷ [] ⊢ Y ⊠ M ⊑ X ⊠ M) tt (y≤x, ≼_trans c≥0 c≤my);
    slope = follows (g ∷ t ∷ x ∷ y ∷ my ∷ [])
        (λ G T X Y M. (Y ⊑ X) ⊛ (M ⊞ G ⊑ T) ∷ [] ⊢ X ⊠ M ⊞ (T ⊟ G) ⊠ Y ⊑ Y ⊠ M ⊞ (T ⊟ G) ⊠ X) tt
        (y≤x, hinge_top r g c t y c+g≤t (≼_trans (⊗-mono-left r r≥0 y≤x) xr≤t));
  }

  stress_times_hinge : Slow (t ⊕ (t ⊖ g)) (x ⊗ mx) (y ⊗ my) x y
  stress_times_hinge = slow_chain (⊎_elim growth_above_0 growth_below_0 (≼-total (whole 0) x)) remainder

-- slope p for stresses x with x r ≼ t, where l (2 t − g) ≼ p; a stress may be negative
pub relaxation_slow : (l r g c t p x y : Fraction) → whole 0 ≼ l → whole 0 ≼ r → whole 0 ≼ g → whole 0 ≼ c →
    c ⊕ g ≼ t → l ⊗ (t ⊕ t) ≼ p ⊕ l ⊗ g → y ≼ x → x ⊗ r ≼ t →
    Slow p (l ⊗ (x ⊗ hinge r g c x)) (l ⊗ (y ⊗ hinge r g c y)) x y
relaxation_slow l r g c t p x y l≥0 r≥0 g≥0 c≥0 c+g≤t steep y≤x xr≤t =
    slow_scaled l p l≥0
    (follows (l ∷ g ∷ t ∷ p ∷ []) (λ L G T P. L ⊠ (T ⊞ T) ⊑ P ⊞ L ⊠ G ∷ [] ⊢ L ⊠ (T ⊞ (T ⊟ G)) ⊑ P) tt steep)
    y≤x (stress_times_hinge r g c t x y r≥0 g≥0 c≥0 c+g≤t y≤x xr≤t)

-- the same for all stresses up to `most`
pub scaled_hinge_slow_to : (most w κ g c p : Fraction) → whole 0 ≼ w → whole 0 ≼ κ → w ⊗ κ ≼ p →
    SlowTo most p (λ z. w ⊗ hinge κ g c z)
scaled_hinge_slow_to most w κ g c p w≥0 κ≥0 wκ≤p x y y≤x x≤most = scaled_hinge_slow w κ g c p x y w≥0 κ≥0 wκ≤p y≤x

pub relaxation_slow_to : (most l r g c t p : Fraction) → whole 0 ≼ l → whole 0 ≼ r → whole 0 ≼ g → whole 0 ≼ c →
    c ⊕ g ≼ t → l ⊗ (t ⊕ t) ≼ p ⊕ l ⊗ g → most ⊗ r ≼ t → SlowTo most p (λ z. l ⊗ (z ⊗ hinge r g c z))
relaxation_slow_to most l r g c t p l≥0 r≥0 g≥0 c≥0 c+g≤t steep most≤t x y y≤x x≤most =
    relaxation_slow l r g c t p x y l≥0 r≥0 g≥0 c≥0 c+g≤t steep y≤x (≼_trans (⊗-mono-left r r≥0 x≤most) most≤t)

-- ---- the step

-- for y ≼ x: ax − ay lies between 0 and 2 (x − y)
ordered_keep_distance : (p e ax ay x y : Fraction) → p ≼ whole 2 → y ≼ x → x ≼ y ⊕ e → Slow p ax ay x y →
    Within e (x ⊖ ax) (y ⊖ ay)
ordered_keep_distance p e ax ay x y p≤2 y≤x h a = record {
  above = follows (e ∷ ax ∷ ay ∷ x ∷ y ∷ [])
      (λ E AX AY X Y. X ⊑ Y ⊞ E ∷ AY ⊑ AX ∷ [] ⊢ X ⊟ AX ⊑ Y ⊟ AY ⊞ E) tt h a.rises;
  below = follows (p ∷ e ∷ ax ∷ ay ∷ x ∷ y ∷ [])
      (λ P E AX AY X Y.
      AX ⊞ P ⊠ Y ⊑ AY ⊞ P ⊠ X ∷ (P ⊑ num 2) ⊛ (Y ⊑ X) ∷ X ⊑ Y ⊞ E ∷ [] ⊢ Y ⊟ AY ⊑ X ⊟ AX ⊞ E) tt
      a.slope (p≤2, y≤x) h;
}

-- a step brings no two stresses up to `most` further apart
abbrev pub KeepsDistance : Fraction → (Fraction → Fraction) → Type 0
KeepsDistance most step = (e x y : Fraction) → x ≼ most → y ≼ most → Within e x y → Within e (step x) (step y)

-- what does not depend on the stress
pub constant_keeps_distance : (most s : Fraction) → KeepsDistance most (λ x. x ⊖ s)
constant_keeps_distance most s e x y hx hy h = record {
  above = follows (e ∷ s ∷ x ∷ y ∷ []) (λ E S X Y. X ⊑ Y ⊞ E ∷ [] ⊢ X ⊟ S ⊑ Y ⊟ S ⊞ E) tt h.above;
  below = follows (e ∷ s ∷ x ∷ y ∷ []) (λ E S X Y. Y ⊑ X ⊞ E ∷ [] ⊢ Y ⊟ S ⊑ X ⊟ S ⊞ E) tt h.below;
}

-- what is added behind a step
pub raised_keeps_distance : (most s : Fraction) (step : Fraction → Fraction) → KeepsDistance most step →
    KeepsDistance most (λ x. step x ⊕ s)
raised_keeps_distance most s step keeps e x y hx hy h =
    let near = keeps e x y hx hy h in
    record {
      above = follows (e ∷ s ∷ step x ∷ step y ∷ []) (λ E S X Y. X ⊑ Y ⊞ E ∷ [] ⊢ X ⊞ S ⊑ Y ⊞ S ⊞ E) tt near.above;
      below = follows (e ∷ s ∷ step x ∷ step y ∷ []) (λ E S X Y. Y ⊑ X ⊞ E ∷ [] ⊢ Y ⊞ S ⊑ X ⊞ S ⊞ E) tt near.below;
    }

-- a part of slope at most 2
pub part_keeps_distance : (most p : Fraction) (a : Fraction → Fraction) → SlowTo most p a → p ≼ whole 2 →
    KeepsDistance most (λ x. x ⊖ a x)
part_keeps_distance most p a slow p≤2 e x y hx hy h = ⊎_elim
    (λ x≤y. within_sym (ordered_keep_distance p e (a y) (a x) y x p≤2 x≤y h.below (slow y x x≤y hy)))
    (λ y≤x. ordered_keep_distance p e (a x) (a y) x y p≤2 y≤x h.above (slow x y y≤x hx))
    (≼-total x y)

-- two parts of slopes that sum to at most 2, and between them one that does not depend on the stress
pub parts_keep_distance : (most p q s : Fraction) (a b : Fraction → Fraction) →
    SlowTo most p a → SlowTo most q b → p ⊕ q ≼ whole 2 → KeepsDistance most (λ x. x ⊖ (a x ⊕ s ⊕ b x))
parts_keep_distance most p q s a b slow_a slow_b p+q≤2 = part_keeps_distance most (p ⊕ whole 0 ⊕ q) (λ z. a z ⊕ s ⊕ b z)
    (λ x y y≤x hx. slow_sum (slow_sum (slow_a x y y≤x hx) (slow_constant s x y)) (slow_b x y y≤x hx))
    (follows (p ∷ q ∷ []) (λ P Q. P ⊞ Q ⊑ num 2 ∷ [] ⊢ P ⊞ num 0 ⊞ Q ⊑ num 2) tt p+q≤2)
