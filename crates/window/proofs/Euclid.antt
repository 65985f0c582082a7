-- Euclid's steps, and that the product which makes the window fits.
use mathlib.Core.Path.{◌≡◌, refl}
use Prim.Native.Nat.{ℕ, zero, suc, ◌*◌, ◌/◌, ◌%◌, ◌≤◌, ◌<◌}
use native.Mathlib.Nat.{mod-lt, div-le_self, mul-le-mul_right, mul-le-mul_left}
use native.Mathlib.Omega.{arith}
use Rattle.paper.specs.Window.{gcd_in, gcd}

-- more steps than are needed change nothing
gcd_in-steps : (f g a b : ℕ) → b < f → b < g → gcd_in f a b ≡ gcd_in g a b
unfolding gcd_in
gcd_in-steps zero g a b h k = absurd (omega arith)
gcd_in-steps (suc f) zero a b h k = absurd (omega arith)
gcd_in-steps (suc f) (suc g) a zero h k = refl
gcd_in-steps (suc f) (suc g) a (suc b) h k =
    let m = mod-lt a {m = suc b} (omega arith) in
    gcd_in-steps f g (suc b) (a % suc b) (omega arith) (omega arith)

pub gcd-end : (a : ℕ) → gcd a 0 ≡ a
unfolding gcd gcd_in
gcd-end a = refl

pub gcd-step : (a b : ℕ) → 0 < b → gcd b (a % b) ≡ gcd a b
unfolding gcd gcd_in
gcd-step a zero h = absurd (omega arith)
gcd-step a (suc b) h =
    let m = mod-lt a {m = suc b} (omega arith) in
    gcd_in-steps (suc (a % suc b)) (suc b) (suc b) (a % suc b) (omega arith) (omega arith)

gcd_in-pos : (f a b : ℕ) → 0 < a → 0 < gcd_in f a b
unfolding gcd_in
gcd_in-pos zero a b h = h
gcd_in-pos (suc f) a zero h = h
gcd_in-pos (suc f) a (suc b) h = gcd_in-pos f (suc b) (a % suc b) (omega arith)

pub gcd-pos : (a b : ℕ) → 0 < b → 0 < gcd a b
unfolding gcd gcd_in
gcd-pos a zero h = absurd (omega arith)
gcd-pos a (suc b) h = gcd_in-pos (suc b) (suc b) (a % suc b) (omega arith)

pub lcm-most : (a b m n : ℕ) → a ≤ m → b ≤ n → a / gcd a b * b ≤ m * n
lcm-most a b m n h k =
    omega (arith, mul-le-mul_right b (div-le_self a (gcd a b)), mul-le-mul_right b h, mul-le-mul_left m k)
