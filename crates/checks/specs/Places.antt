-- It serves the code alone. The ranges of lines 1 to 4, line by line, as the code makes them.
use Rattle.std.specs.Prelude.{List, [], ◌∷◌}
use Rattle.fields.specs.Quantities.{Quantities, field_number}
use Rattle.fields.specs.Limits.{range}
use Rattle.checks.specs.Rows.{Check, at, ranged, jacking_fits, deflector_fits}

unfoldable pub ranges_of_line1 : Quantities → List Check
ranges_of_line1 q =
    ranged field_number.ultimate_strength range.ultimate_strength q.ultimate_strength
    ∷ at field_number.jacking_stress (jacking_fits q) ∷ at field_number.deflector_loss (deflector_fits q)
    ∷ ranged field_number.slip range.slip q.slip
    ∷ ranged field_number.tendon_length range.tendon_length q.tendon_length ∷ []

unfoldable pub ranges_of_line2 : Quantities → List Check
ranges_of_line2 q =
    ranged field_number.Es range.Es q.Es ∷ ranged field_number.Eci range.Eci q.Eci
    ∷ ranged field_number.Ec range.Ec q.Ec
    ∷ ranged field_number.volume_to_surface range.volume_to_surface q.volume_to_surface ∷ []

unfoldable pub ranges_of_line3 : Quantities → List Check
ranges_of_line3 q =
    ranged field_number.area range.area q.area ∷ ranged field_number.inertia range.inertia q.inertia
    ∷ ranged field_number.eccentricity range.eccentricity q.eccentricity
    ∷ ranged field_number.steel_area range.steel_area q.steel_area
    ∷ ranged field_number.own_weight_moment range.own_weight_moment q.own_weight_moment ∷ []

unfoldable pub ranges_of_line4 : Quantities → List Check
ranges_of_line4 q =
    ranged field_number.wobble range.wobble q.wobble
    ∷ ranged field_number.curvature range.curvature q.curvature ∷ []
