-- The promise rests on it. The limits of documents 01 and 02: of the card's fields and of its counts, of the hours, and of the refusals.
use Rattle.std.specs.Prelude.{ℕ, ◌*◌, ◌/◌, ◌^◌, Bool, ◌&&◌, cond, [], leb, Ok, Err}
use Rattle.ticks.specs.Ticks.{ticks_per_unit, T}
use Rattle.fields.specs.declared.refusal.Refusal.{Refusal}
use Rattle.fields.specs.Outcomes.{OrRefusal}
use Rattle.fields.specs.Quantities.{OfFields}

-- ---- "Fields and ranges"

infixl 20 ◌to◌
pub record Range : Type 0 where
  pub low : ℕ
  pub high : ℕ

abbrev pub ◌to◌ : ℕ → ℕ → Range
low to high = record { low = low; high = high }

-- x lies in low..high
abbrev pub within : ℕ → ℕ → ℕ → Bool
within low high x = leb low x && leb x high

-- "ultimate strength F 100,000..300,000 psi, 4 jacking stress .. at most 0.80 F", as is the stress after a gain (document 02, W1)
abbrev pub strengths : Range
strengths = 100000 to 300000

abbrev pub most_of_strength : ℕ
most_of_strength = 80

abbrev pub hundredths : ℕ
hundredths = 100

-- "2,097,152" ticks of foot, of the tendon and of a segment; "All moments together at most 2^40"
abbrev pub most_length : ℕ
most_length = 2097152

abbrev pub most_moment : ℕ
most_moment = 2 ^ 40

-- of the fields of lines 1 to 4: of the jacking stress for the highest F, of the end of curing if moist, of transfer if accelerated
abbrev pub range : OfFields Range
range = record {
  kind = 1 to 2;
  steel = 1 to 2;
  ultimate_strength = strengths;
  jacking_stress = 1000 to most_of_strength * strengths.high / hundredths;
  deflector_loss = 0 to 20000;
  slip = 0 to 2048;
  tendon_length = 1024 to most_length;
  cure = 1 to 2;
  concrete = 1 to 2;
  Es = 20000000 to 32000000;
  Eci = 1000000 to 8000000;
  Ec = 1000000 to 8000000;
  volume_to_surface = 1024 to 65536;
  area = 1024 to 2 ^ 24;
  inertia = 1024 to 2 ^ 34;
  eccentricity = 0 to 65536;
  steel_area = 1 to 65536;
  own_weight_moment = 0 to most_moment;
  end_of_curing = 0 to 168;
  transfer = 1 to 960;
  wobble = 0 to 2000;
  curvature = 0 to 400000;
  path = [];
  second_path = [];
  ages = [];
}

-- document 02, W2: "A blank slip field shall read 384 ticks", "3/8 inch"
abbrev pub blank_slip : ℕ
blank_slip = 384

-- "Transfer lies in 72..960 if moist"
abbrev pub least_moist_transfer : ℕ
least_moist_transfer = 72

-- "23 segments s 0..64", and document 02, W9, of field 25: "0..64"; "24 ages n" from 3 to 48 (document 02, W6: "The limit becomes 48")
abbrev pub most_segments : ℕ
most_segments = 64

abbrev pub least_ages : ℕ
least_ages = 3

abbrev pub most_ages : ℕ
most_ages = 48

abbrev pub segment_counts : Range
segment_counts = 0 to most_segments

abbrev pub age_counts : Range
age_counts = least_ages to most_ages

-- "the counts in fields 23 and 24 are ranged while the shape is read, giving 2", and W9 of field 25: "it is ranged with fields 23 and 24"
abbrev pub count_within : ℕ → Range → ℕ → OrRefusal ℕ
count_within field range count = cond (within range.low range.high count) (Ok count) (Err (Refusal.Ranges field))

-- "1 straight (length 1..2,097,152, rise 0); 2 parabola (length 1,024..2,097,152, rise 0..65,536); 3 bend (length 0, third field the
-- angle 0..4,096)"
abbrev pub least_straight : ℕ
least_straight = 1

abbrev pub least_parabola : ℕ
least_parabola = 1024

abbrev pub most_rise : ℕ
most_rise = 65536

abbrev pub most_angle : ℕ
most_angle = 4096

-- ---- the rows from duct to stress: "where X passes 1.5 T" (document 02, W3), "κ over 2^30", "U·κ over 2^56", "under 1,000 psi", in ticks

abbrev pub most_friction : ℕ
most_friction = 3 * T / 2

-- document 02, W9: "by more than one foot together"
abbrev pub most_apart : ℕ
most_apart = 1 * ticks_per_unit

abbrev pub most_kappa : ℕ
most_kappa = 2 ^ 30

abbrev pub most_creep_of_kappa : ℕ
most_creep_of_kappa = 2 ^ 56

abbrev pub least_stress : ℕ
least_stress = 1000 * ticks_per_unit

-- ---- buffers: "report or scratch under" a row's numbers for each age

-- "creep, shrinkage, relaxation, stress per age", and document 02, W1: the gain "as a fifth per age .., so buffers need 5n"
abbrev pub per_row : ℕ
per_row = 5

abbrev pub report_room : ℕ → ℕ
report_room ages = per_row * ages

abbrev pub scratch_room : ℕ → ℕ
scratch_room ages = per_row * ages
