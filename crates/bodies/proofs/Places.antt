-- A place of a body that is held: what its letter says, and the body with another term there.
-- Assumes nothing.
use Prim.Native.Nat.{ℕ, ◌+◌, ◌-◌, ◌≤◌, ◌<◌}
use mathlib.Core.Path.{◌≡◌, refl, ap, sym, subst, ◌∙◌}
use mathlib.Core.Bool.{Bool, true, false, cond}
use mathlib.Core.List.{List, ◌++◌, append_assoc}
use native.Mathlib.Omega.{arith}
use lib.Dec.{leb}
use lib.ListN.{length, get_or, take, drop}
use lib.Seq.{sets, sets-eq}
use borrow.Author.Tests.{le-leb, lt-leb}
use Rattle.std.specs.Prelude.{Ok, Err}
use Rattle.calculus.specs.Terms.{Term, var, size, Closed, closed_var}
use Rattle.calculus.specs.Frames.{Frame, depth}
use Rattle.code.specs.Limits.{longest_term, most_abstractors}
use Rattle.code.specs.Scope.{scope}
use Rattle.code.proofs.Scope.{closed_coded}
use Rattle.verdict.specs.Bounds.{body_fits}
use Rattle.parts.specs.Parts.{part, Copied}
use Rattle.parts.proofs.Cut.{length_part}
use Rattle.parts.proofs.Stores.{take_sets, drop_sets_start, drop_sets_add, sets_append}
use Rattle.frames.specs.declared.FrameRecord.{FrameRecord}
use Rattle.letters.specs.Letters.{letter, letters, symbol_of, depth_of, height_of, Lies}
use Rattle.letters.proofs.Letters.{first, first_small, length_letters, symbol_letter, depth_letter, height_letter, head_of, lies_end}
use Rattle.bodies.specs.Ways.{Way, put, depth_at, height_at}
use Rattle.bodies.specs.Held.{Held, FormAs, form_outgrown, form_held}
use Rattle.bodies.specs.Moving.{Spliced}
use Rattle.bodies.specs.declared.StepError.TheVariants.{Outgrown}
use Rattle.bodies.proofs.Ways.{way_within, way_scope, way_closed, put_size, put_scope, height_least}
use Rattle.bodies.proofs.Splitting.{There, there, lies_put}

-- ---- What the letter there says.
pub record At (s : List ℕ) (n p : ℕ) (R : Frame) {t u : Term} (w : Way t p u) : Type 0 where
  pub there_now : There s n p (depth_at 0 w) (height_at 0 w) u
  pub symbol : symbol_of (get_or s p 0) ≡ first u
  pub deep : depth_of (get_or s p 0) ≡ depth_at 0 w
  pub high : height_of (get_or s p 0) ≡ height_at 0 w
  pub low : height_at 0 w ≤ p
  pub shallow : depth R + (depth_at 0 w + scope u) ≤ most_abstractors
  pub closed : Closed (depth R + depth_at 0 w) u
  pub inside : p + size u ≤ n
  pub most : n ≤ longest_term

pub at_way : {W : List ℕ} {f : FrameRecord} {s : List ℕ} {n p : ℕ} {R : Frame} {t u : Term} → Held W f s n R t → (w : Way t p u) → At s n p R w
at_way {s = s} {n} {p} {R} {t} {u} y w =
    let z : There s n p (depth_at 0 w) (height_at 0 w) u = there (omega (arith, y.shallow)) y.lies w (omega arith) in
    let c = first_small z.lies.coded in
    let v : get_or s p 0 ≡ letter (first u) (depth_at 0 w) (height_at 0 w) = head_of z.lies in
    let b : depth R + (depth_at 0 w + scope u) ≤ most_abstractors = omega (arith, way_scope 0 w, y.shallow) in
    record {
      there_now = z;
      symbol = rw v (symbol_letter (first u) (depth_at 0 w) (height_at 0 w) c);
      deep = rw v (depth_letter (first u) (depth_at 0 w) (height_at 0 w) c (omega arith));
      high = rw v (height_letter (first u) (depth_at 0 w) (height_at 0 w) c (omega arith));
      low = omega (arith, height_least 0 w);
      shallow = b;
      closed = way_closed y.closed_frame y.closed w;
      inside = omega (arith, way_within w, y.lies.place);
      most = omega (arith, lies_end y.lies, y.array);
    }

pub index_there : {s : List ℕ} {n p k : ℕ} {R : Frame} {t : Term} {w : Way t p (var k)} → At s n p R w → (1 ≤ k) × (k ≤ depth R + depth_at 0 w)
index_there {k = k} {R = R} {w = w} a = go a.closed
  where
    go : Closed (depth R + depth_at 0 w) (var k) → (1 ≤ k) × (k ≤ depth R + depth_at 0 w)
    go (closed_var i j) = (i, j)

-- ---- The limits.
module _ (R : Frame) (t : Term) where
  pub fits_true : size t ≤ longest_term → depth R + scope t ≤ most_abstractors → body_fits R t ≡ true
  unfolding body_fits
  fits_true h l = rw (le-leb (size t) longest_term h) (le-leb (depth R + scope t) most_abstractors l)

  pub fits_long : longest_term < size t → body_fits R t ≡ false
  unfolding body_fits
  fits_long h = rw (lt-leb (size t) longest_term h)

  pub fits_deep : most_abstractors < depth R + scope t → body_fits R t ≡ false
  unfolding body_fits
  fits_deep h = go (leb (size t) longest_term)
    where
      go : (a : Bool) → cond a (leb (depth R + scope t) most_abstractors) false ≡ false
      go true = lt-leb (depth R + scope t) most_abstractors h
      go false = refl

-- ---- The body with x there.
module _ {W : List ℕ} {f : FrameRecord} {s : List ℕ} {n p : ℕ} {R : Frame} {t u : Term} (y : Held W f s n R t) (w : Way t p u) (x : Term) where
  size_there : size (put w x) + size u ≡ n + size x
  size_there = omega (arith, put_size w x, y.lies.place)

  pub over_long : {s' : List ℕ} → longest_term + size u < n + size x → FormAs W f s' R (put w x) (Err Outgrown)
  over_long h = form_outgrown (fits_long R (put w x) (omega (arith, size_there)))

  pub too_deep : {s' : List ℕ} → most_abstractors < depth R + (depth_at 0 w + scope x) → FormAs W f s' R (put w x) (Err Outgrown)
  too_deep h = form_outgrown (fits_deep R (put w x) (omega (arith, put_scope 0 w x)))

  pub put_held : {s' : List ℕ} {m q : ℕ} → Closed (depth R) (put w x) → depth R + (depth_at 0 w + scope x) ≤ most_abstractors → m ≤ longest_term → m + size u ≡ n + size x → q ≡ p + size u
      → Spliced s s' n p q (letters (depth_at 0 w) (height_at 0 w) x) → FormAs W f s' R (put w x) (Ok m)
  put_held {s'} {m} c d l k e g = form_held (fits_true R (put w x) (omega (arith, same)) shallow) same (record {
    stored = y.stored;
    closed_frame = y.closed_frame;
    array = g.same_length ∙ y.array;
    lies = subst (λ j. Lies s' 0 j 0 0 (put w x)) (sym same) (lies_put y.lies w x e (closed_coded c shallow) g);
    closed = c;
    shallow = shallow;
  })
    where
      same : m ≡ size (put w x)
      same = omega (arith, size_there)

      shallow : depth R + scope (put w x) ≤ most_abstractors
      shallow = omega (arith, put_scope 0 w x, y.shallow)

-- ---- The letters after p move, and v is stored before them.
pub splice : {s s₁ s' v : List ℕ} {n p q : ℕ} → q ≤ n → n ≤ length s → p + length v + (n - q) ≤ length s → Copied s q n s s₁ (p + length v) → s' ≡ sets s₁ p v → length s' ≡ length s → Spliced s s' n p q v
splice {s} {s₁} {s'} {v} {n} {p} {q} o l h a b k = record {
  rest = drop (p + length v + length (part s q n)) s;
  letters_there = b ∙ sets-eq v s₁ p (omega (arith, a.same_length)) ∙ rw (start, end) (simp append_assoc);
  same_length = k;
}
  where
    count : length (part s q n) ≡ n - q
    count = length_part s q n l

    start : take p s₁ ≡ take p s
    start = rw a.bytes (take_sets (part s q n) s (p + length v) p (omega arith))

    end : drop (p + length v) s₁ ≡ part s q n ++ drop (p + length v + length (part s q n)) s
    end = rw a.bytes (drop_sets_start (part s q n) s (p + length v) (omega (arith, count)))

-- ---- What lies before letters that are stored still lies there.
pub lies_before : {s : List ℕ} {q e d h : ℕ} {t : Term} → Lies s q e d h t → (at : ℕ) (v : List ℕ) → e ≤ at → Lies (sets s at v) q e d h t
lies_before {s} {q} {e} {d} {h} {t} l at v b = record { rest = sets l.rest (at - e) v; letters_there = letters_now; coded = l.coded; place = l.place }
  where
    where_at : at ≡ q + (length (letters d h t) + (at - e))
    where_at = omega (arith, l.place, length_letters d h t)

    letters_now : drop q (sets s at v) ≡ letters d h t ++ sets l.rest (at - e) v
    letters_now = ap (λ x. drop q (sets s x v)) where_at ∙ drop_sets_add v s q (length (letters d h t) + (at - e)) ∙ rw l.letters_there (sets_append v (letters d h t) l.rest (at - e))
