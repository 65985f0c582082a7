-- A lent buffer with bytes written from a place on: what stands before and after them is untouched.
-- Bytes written after bytes are those bytes together.
use Rattle.std.specs.Prelude.{◌≡◌, ℕ, ◌+◌, ◌≤◌, ◌<◌, get_or, set}
use Rattle.std.proofs.Math.Path.{sym, ap}
use Rattle.std.proofs.Common.{◌∙◌, add-one, arith, take-append-drop, take-suc, drop_at}
use mathlib.Core.List.{List, [], ◌∷◌, ◌++◌, append_assoc}
use Rattle.std.proofs.Math.Nat.{add-zero}
use Rattle.std.proofs.Math.ListN.{length, take, drop, length-append, length-drop}
use Rattle.std.proofs.lemmas.List.{set_split}
use Rattle.std.proofs.Math.Seq.{length-take-le, take_at, drop-drop}

unfoldable pub written : List ℕ → ℕ → List ℕ → List ℕ
written out at ws = take at out ++ (ws ++ drop (at + length ws) out)

-- ws was written at a place, and next is the place after it
pub record Wrote (out : List ℕ) (at : ℕ) (ws : List ℕ) (next : ℕ) (after : List ℕ) : Type 0 where
  pub place : next ≡ at + length ws
  pub bytes : after ≡ written out at ws

module _ (out : List ℕ) (at : ℕ) where
  pub written_none : written out at [] ≡ out
  unfolding written
  written_none = rw add-zero (take-append-drop at out)

  pub written_one : (b : ℕ) → at < length out → written out at (b ∷ []) ≡ set out at b
  unfolding written
  written_one b h = rw (set_split out at b h, add-one)

  module _ (ws : List ℕ) (fits : at + length ws ≤ length out) where
    pub written-length : length (written out at ws) ≡ length out
    unfolding written
    written-length =
        let a : length (take at out) ≡ at = length-take-le at out (omega arith) in
        simp (length-append, length-drop, a) (omega arith)

    pub written-more : (vs : List ℕ) → written (written out at ws) (at + length ws) vs ≡ written out at (ws ++ vs)
    unfolding written
    written-more vs =
        let n = at + length ws in
        let f = take at out ++ ws in
        let r = drop n out in
        let a : length f ≡ n = rw (length-append (take at out) ws, length-take-le at out (omega arith)) in
        let back : drop (n + length vs) (f ++ r) ≡ drop (n + length vs) out =
        sym (drop-drop (length vs) n (f ++ r)) ∙ ap (drop (length vs)) (drop_at f r n a) ∙ drop-drop (length vs) n out in
        let e : at + length (ws ++ vs) ≡ n + length vs = omega (arith, length-append ws vs) in
        rw (← append_assoc (take at out) ws r, take_at f r n a, back, e) (simp append_assoc)

-- one writing after another
pub wrote_more : {out ws vs one two : List ℕ} {at next end : ℕ} → at + length ws ≤ length out
    → Wrote out at ws next one → Wrote one next vs end two → Wrote out at (ws ++ vs) end two
wrote_more {out} {ws} {vs} {at = at} h p q = record {
  place = omega (arith, length-append ws vs, p.place, q.place);
  bytes = q.bytes ∙ rw (p.bytes, p.place) (written-more out at ws h vs);
}

pub wrote_length : {out ws one : List ℕ} {at next : ℕ} → at + length ws ≤ length out → Wrote out at ws next one → length one ≡ length out
wrote_length {out} {ws} {at = at} h p = rw p.bytes (written-length out at ws h)

module _ {out ws after : List ℕ} {at next : ℕ} (inside : at ≤ length out) (w : Wrote out at ws next after) where
  front : length (take at out ++ ws) ≡ next
  front = rw (w.place, length-append (take at out) ws, length-take-le at out inside)

  joined : after ≡ take at out ++ ws ++ drop (at + length ws) out
  unfolding written
  joined = w.bytes ∙ sym (append_assoc (take at out) ws (drop (at + length ws) out))

  -- the bytes up to the place after a writing are those that stood before it, and what was written
  pub wrote_shown : take next after ≡ take at out ++ ws
  wrote_shown = rw joined (take_at (take at out ++ ws) (drop (at + length ws) out) next front)

  -- and that place is still within the buffer
  pub wrote_inside : next ≤ length after
  wrote_inside = rw (joined, length-append (take at out ++ ws) (drop (at + length ws) out)) (omega (arith, front))

-- nothing was written, and one byte more of a run of bytes
pub wrote_none : (out : List ℕ) (at : ℕ) → Wrote out at [] at out
wrote_none out at = record { place = omega arith; bytes = sym (written_none out at) }

pub wrote_next : {out one two : List ℕ} {at next end : ℕ} (bytes : List ℕ) (i : ℕ) → i < length bytes → at + length bytes ≤ length out
    → Wrote out at (take i bytes) next one → Wrote one next (get_or bytes i 0 ∷ []) end two → Wrote out at (take (i + 1) bytes) end two
wrote_next bytes i h fits p q =
    let l : length (take i bytes) ≡ i = length-take-le i bytes (omega arith) in
    rw (add-one, take-suc bytes i 0 h) (wrote_more (omega arith) p q)
