-- How many places of a vector hold the mark, 65,535.
use Rattle.std.specs.Prelude.{ℕ, suc, ◌+◌, ◌≤◌, ◌<◌, ◌≡◌, cond, List, ◌==◌, count_by, length, drop, get_or}
use Rattle.std.proofs.Common.{arith, length-drop, drop-cons}
use Rattle.std.proofs.Math.Seq.{drop-length}
use Rattle.std.proofs.lemmas.List.Sums.{count_by-le-length, sum_by-cons}

abbrev pub is_mark : ℕ → ℕ
is_mark n = cond (n == 65535) 1 0

abbrev pub marks : List ℕ → ℕ
marks v = count_by (λ n. n == 65535) v

-- No more places are marked than there are.
pub marks-most : (ns : List ℕ) (i : ℕ) → marks (drop i ns) ≤ length ns
marks-most ns i = omega (arith, count_by-le-length (λ n. n == 65535) (drop i ns), length-drop i ns)

-- None is counted yet.
pub marks-none : (ns : List ℕ) → 0 ≡ marks (drop (length ns) ns)
marks-none ns = rw (drop-length ns)

-- One place more in front.
pub marks-more : (ns : List ℕ) (i j : ℕ) → i ≡ suc j → j < length ns → marks (drop i ns) + is_mark (get_or ns j 0) ≡ marks (drop j ns)
marks-more ns i j e h = rw (e, drop-cons ns j 0 h) (omega (arith, sum_by-cons is_mark (get_or ns j 0) (drop (suc j) ns)))
