-- The promise rests on it. The factor that friction leaves of a stress, in whole numbers of 1/T: document 02, W3.
use Rattle.std.specs.Prelude.{ℕ, zero, suc, ◌*◌, ◌-◌, ◌/◌}
use Rattle.ticks.specs.Ticks.{T}

-- "for k from 15 down to 1"
abbrev pub powers : ℕ
powers = 15

-- "it becomes T less h·X/(k·T), that part rounded down". A natural difference: no such part of an X up to 1.5 T is larger than T.
abbrev pub turn : ℕ → ℕ → ℕ → ℕ
turn X k h = T - h * X / (k * T)

-- h after the turns of k, k − 1, .. , 1
unfoldable pub turns : ℕ → ℕ → ℕ → ℕ
turns X zero h = h
turns X (suc i) h = turns X i (turn X (suc i) h)

-- "The factor in units of 1/T comes from h: it starts at T"
unfoldable pub factor : ℕ → ℕ
unfolding turns
factor X = turns X powers T
