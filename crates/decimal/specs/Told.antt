-- A text is a lent buffer with the place in it that is written next: how much room it has, and what is told into it.
use Rattle.std.specs.Prelude.{◌≡◌, refl, ℕ, ◌+◌, ◌≤◌, List, [], ◌++◌, length}
use Rattle.std.proofs.Common.{◌∙◌, arith}
use Rattle.decimal.specs.declared.Text.{Text}
use Rattle.decimal.specs.Written.{Wrote, wrote_none, wrote_more}

-- n bytes still fit
abbrev pub Room : ℕ → Text → Type 0
Room n t = t.at + n ≤ length t.out.now

-- these bytes were written where the text stood, and it stands after them, in the same buffer
pub record Told (old : Text) (bytes : List ℕ) (new : Text) : Type 0 where
  pub same_buffer : new.out.ghost_name ≡ old.out.ghost_name
  pub same_length : length new.out.now ≡ length old.out.now
  pub wrote : Wrote old.out.now old.at bytes new.at new.out.now

-- what is told takes no more room than it has bytes
pub room_after : {a b : Text} {ws : List ℕ} (n : ℕ) → Room (length ws + n) a → Told a ws b → Room n b
room_after n h p = omega (arith, p.same_length, p.wrote.place)

-- nothing is told
pub told_none : (t : Text) → Told t [] t
told_none t = record { same_buffer = refl; same_length = refl; wrote = wrote_none t.out.now t.at }

-- one telling after another
pub told_more : {a b c : Text} {ws vs : List ℕ} → Room (length ws) a → Told a ws b → Told b vs c → Told a (ws ++ vs) c
told_more h p q = record {
  same_buffer = q.same_buffer ∙ p.same_buffer;
  same_length = q.same_length ∙ p.same_length;
  wrote = wrote_more h p.wrote q.wrote;
}
