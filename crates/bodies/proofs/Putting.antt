-- A term in a variable's place: the laws of `write_source` and `put`.
-- Assumes nothing.
use Prim.Native.Nat.{ℕ, ◌+◌, ◌-◌, ◌≤◌, ◌<◌}
use mathlib.Core.Path.{◌≡◌, refl, ap, ap₂, sym, subst, ◌∙◌}
use mathlib.Core.Bool.{Bool, true, false}
use mathlib.Core.Logic.{◌⊎◌, inl, inr, ⊎_elim}
use mathlib.Core.List.{List, ◌++◌}
use native.Mathlib.Omega.{arith}
use lib.ListN.{length, get_or, take, drop, length-drop, length-append}
use lib.Seq.{length-take-le, take-append-le, drop-append-le}
use lib.Seq.{sets, length-sets}
use Rattle.parts.proofs.Stores.{sets_append}
use Rattle.bodies.proofs.Storing.{stored}
use Rattle.std.specs.Prelude.{Ok, Err}
use Rattle.calculus.specs.Terms.{Term, var, size, Closed, lift}
use Rattle.calculus.specs.Frames.{Frame, depth}
use Rattle.calculus.proofs.Lift.{size_lift}
use Rattle.code.specs.Limits.{longest_term, longest_state, most_abstractors}
use Rattle.code.specs.Scope.{scope}
use Rattle.code.proofs.Parts.{stands_start, stands_end}
use Rattle.code.proofs.Scope.{scope_lift}
use Rattle.parts.specs.Parts.{part, Copied}
use Rattle.frames.specs.declared.FrameRecord.{FrameRecord}
use Rattle.frames.proofs.Laws.{stored_depth}
use Rattle.letters.specs.Letters.{letters, depth_of, height_of, Lies}
use Rattle.letters.specs.Clauses.{Readable, ReadAs, read_all, Reads}
use Rattle.letters.specs.Clauses as reading
use Rattle.letters.proofs.Letters.{length_letters, lies_end}
use Rattle.bodies.specs.Ways.{Way, put, depth_at, height_at}
use Rattle.bodies.specs.Held.{Held, FormAs}
use borrow.Rule.Slice.PartMut.{put_mid}
use Rattle.bodies.specs.Moving.{LettersLiftable, LettersLifted, SomeLies, DeepestIs}
use Rattle.bodies.specs.Putting.{SourceIs, in_frame, in_body, Sourced, SourceWritten, Puttable, PutsTerm}
use Rattle.bodies.specs.declared.Holder.TheVariants.{TheFrame, TheBody}
use Rattle.bodies.specs.declared.Source.{Source}
use Rattle.bodies.specs.declared.StepError.TheVariants.{Outgrown}
use Rattle.parts.proofs.Cut.{length_part}
use Rattle.bodies.proofs.Lifting.{lies_part, lifted_term}
use Rattle.bodies.proofs.Places.{At, at_way, over_long, too_deep, put_held, splice, lies_before}

-- ---- Where a source stands, and how long it is.
module _ {w s : List ℕ} {p d : ℕ} {x : Source} {K : Term} where
  source_size : SourceIs w s p d x K → x.end ≡ x.start + size K
  source_size (in_frame f m h) = h.place
  source_size (in_body f e l b o) = l.place

  source_end : SourceIs w s p d x K → (x.start < x.end) × ((x.end ≤ length w) ⊎ (x.end ≤ p))
  source_end (in_frame f m h) = (stands_start h, inl (stands_end h))
  source_end (in_body f e l b o) = ((lies_end l).0, inr o)

  source_moved : {r : List ℕ} {from to at : ℕ} {s' : List ℕ} → Copied r from to s s' at → p ≤ at → SourceIs w s p d x K → SourceIs w s' p d x K
  source_moved c l (in_frame f m h) = in_frame f m h
  source_moved {r} {from} {to} {at} c l (in_body {low = low} f e i b o) = in_body {low = low} f e (rw c.bytes (lies_before i at (part r from to) (omega arith))) b o

-- ---- `write_source`.
module _ {w s : List ℕ} {p d h room : ℕ} {x : Source} (g : Sourced w s p d h room x) where
  abbrev k : ℕ
  k = x.lift

  pub source_readable : x.holder ≡ TheFrame → Readable w x.start x.end k d h room s p
  source_readable f = go g.source
    where
      go : SourceIs w s p d x g.term → Readable w x.start x.end k d h room s p
      go (in_body q e l b o) = cc
      go (in_frame q m i) = record {
        standing = record { term = g.term; stands = i; short = omega (arith, g.high) };
        index = m;
        deep = omega (arith, g.deep);
        high = g.high;
        fits = g.fits;
      }

  pub source_read : {s' : List ℕ} {r : Bool} → x.holder ≡ TheFrame → Reads w x.start x.end k d h room s s' p r → SourceWritten w s s' p d h room x r
  source_read {s'} {r} f c = record { all = λ K i. go K i; same_length = c.same_length }
    where
      go : (K : Term) → SourceIs w s p d x K → ReadAs k d h room s s' p K r
      go K (in_frame q m i) = c.all K i
      go K (in_body q e l b o) = cc

  -- among the body's letters
  module _ (f : x.holder ≡ TheBody) where
    record Inside (K : Term) : Type 0 where
      low : ℕ
      depth_is : d - k + k ≡ d
      lies : Lies s x.start x.end (d - k) low K
      few : d - k + scope K ≤ most_abstractors
      before : x.end ≤ p

    inside : {K : Term} → SourceIs w s p d x K → Inside K
    inside (in_frame q m i) = cc
    inside {K} (in_body {c} {low} q e l b o) =
        let z : c ≡ d - k = omega arith in
        record { low = low; depth_is = omega arith; lies = rw z at l; few = omega arith; before = o }

    pub source_lower : (k ≤ d) × (d - k < 4294967296) × (room < 4294967296) × (k < 4294967296) × (h < 4294967296)
    source_lower = (omega (arith, (inside g.source).depth_is), omega (arith, g.deep), omega (arith, g.deep), omega (arith, (inside g.source).depth_is, g.deep), omega (arith, g.high, source_end g.source))

    pub source_order : (x.start < x.end) × (x.end ≤ p) × (p < length s) × (x.end - x.start ≤ length s - p)
    source_order = (omega (arith, source_end g.source), (inside g.source).before, omega (arith, g.fits, source_end g.source, g.array), omega (arith, g.fits, g.array))

    -- the array in two: the letters before p, and those from p on
    module _ (front back : List ℕ) (e : s ≡ front ++ back) (n : length front ≡ p) {term : List ℕ} (v : term ≡ part front x.start x.end) where
      term_is : term ≡ part s x.start x.end
      term_is = v ∙ sym (rw (e, drop-append-le x.start front back (omega (arith, n, source_order)), take-append-le (x.end - x.start) (drop x.start front) back (rw (length-drop x.start front) (omega (arith, n, source_order)))) refl)

      long : length term ≡ x.end - x.start
      long = ap length v ∙ length_part front x.start x.end (omega (arith, n, source_order))

      pub source_room : length (take (x.end - x.start) back) ≡ length term
      source_room = length-take-le (x.end - x.start) back (omega (arith, source_order, ap length e, length-append front back, n)) ∙ sym long

      lies_here : {K : Term} (i : SourceIs w s p d x K) → Lies term 0 (length term) (d - k) (inside i).low K
      lies_here {K} i = rw term_is (lies_part (inside i).lies (omega (arith, source_order)))

      pub source_some : SomeLies term
      source_some = let i = inside g.source in record { c = d - k; low = i.low; term = g.term; lies = lies_here g.source; few = i.few }

      module _ {m : ℕ} (c : DeepestIs term m) where
        pub source_deep : d - k + room < m → SourceWritten w s (front ++ back) p d h room x false
        source_deep l = subst (λ z. SourceWritten w s z p d h room x false) e (record { all = λ K i. let z = inside i in reading.too_deep (omega (arith, c.all (d - k) z.low K (lies_here i) z.few)); same_length = refl })

        module _ (l : m ≤ d - k + room) where
          shallow : {K : Term} (i : SourceIs w s p d x K) → scope K ≤ room
          shallow {K} i = let z = inside i in omega (arith, c.all (d - k) z.low K (lies_here i) z.few)

          few_lifted : {K : Term} (i : SourceIs w s p d x K) → d - k + scope K + k ≤ most_abstractors
          few_lifted i = omega (arith, shallow i, (inside i).depth_is, g.deep)

          pub source_liftable : LettersLiftable term (d - k) k h
          source_liftable = let i = inside g.source in
              record { low = i.low; term = g.term; lies = lies_here g.source; few = few_lifted g.source; high = omega (arith, g.high, long, source_order) }

          module _ {out : List ℕ} (j : LettersLifted term out (d - k) k h) where
            lifted_now : {K : Term} (i : SourceIs w s p d x K) → out ≡ letters d h (lift k 0 K)
            lifted_now {K} i = lifted_term j (lies_here i) (few_lifted i) ∙ ap (λ y. letters y h (lift k 0 K)) (inside i).depth_is

            out_long : length out ≡ x.end - x.start
            out_long = ap length (lifted_now g.source) ∙ length_letters d h (lift k 0 g.term) ∙ omega (arith, size_lift k 0 g.term, source_size g.source)

            stored_now : front ++ put_mid 0 (x.end - x.start) back out ≡ sets s p out
            stored_now = ap (front ++◌) (stored back out 0 (x.end - x.start) out_long (omega (arith, source_order, ap length e, length-append front back, n))) ∙ sym (sets_append out front back 0) ∙ ap₂ (λ a b. sets a b out) (sym e) (omega (arith, n))

            pub source_lifted : SourceWritten w s (front ++ put_mid 0 (x.end - x.start) back out) p d h room x true
            source_lifted = record { all = λ K i. read_all (stored_now ∙ ap (sets s p) (lifted_now i)) (shallow i); same_length = ap length stored_now ∙ length-sets s p out }

-- ---- `put`.
module _ {w : List ℕ} {f : FrameRecord} {s : List ℕ} {n p : ℕ} {x : Source} (g : Puttable w f s n p x) where
  at : At s n p g.frame g.way
  at = at_way g.held g.way

  pub put_bounds : (x.start < x.end) × (1 ≤ n) × (p + 1 ≤ n) × (n ≤ longest_term) × (length s ≡ longest_term) × (x.end ≤ longest_state)
  unfolding size
  put_bounds = ((source_end g.source).0, omega (arith, at.inside), omega (arith, at.inside), at.most, g.held.array, ⊎_elim (λ l. omega (arith, g.held.stored.work)) (λ l. omega (arith, at.inside, at.most)) (source_end g.source).1)

  pub put_long : longest_term < n - 1 + (x.end - x.start) → PutsTerm w f s s n p x (Err Outgrown)
  unfolding size
  put_long l = record { all = λ R t k way K y i c. over_long y way (lift x.lift 0 K) (omega (arith, put_bounds, source_size i, size_lift x.lift 0 K)); same_length = refl }

  module _ {d : ℕ} (e : d ≡ depth_of (get_or s p 0)) where
    deep_is : {R : Frame} {t : Term} {k : ℕ} (y : Held w f s n R t) (way : Way t p (var k)) → d ≡ depth_at 0 way
    deep_is y way = e ∙ (at_way y way).deep

    pub put_room : f.len + d ≤ most_abstractors
    put_room = omega (arith, at.shallow, deep_is g.held g.way, stored_depth g.held.stored)

    module _ {h : ℕ} (b : h ≡ height_of (get_or s p 0)) (l : n - 1 + (x.end - x.start) ≤ longest_term)
        {s₁ : List ℕ} (c : Copied s (p + 1) n s s₁ (p + (x.end - x.start))) where
      high_is : {R : Frame} {t : Term} {j : ℕ} (y : Held w f s n R t) (way : Way t p (var j)) → h ≡ height_at 0 way
      high_is y way = b ∙ (at_way y way).high

      source_now : {R : Frame} {t : Term} {j : ℕ} {K : Term} (y : Held w f s n R t) (way : Way t p (var j)) → SourceIs w s p (depth_at 0 way) x K → SourceIs w s₁ p d x K
      source_now {K = K} y way i = subst (λ z. SourceIs w s₁ p z x K) (sym (deep_is y way)) (source_moved c (omega arith) i)

      pub put_sourced : Sourced w s₁ p d h (most_abstractors - f.len - d) x
      put_sourced = record {
        work = g.held.stored.work;
        array = c.same_length ∙ g.held.array;
        term = g.term;
        source = source_now g.held g.way g.source;
        deep = omega (arith, put_room);
        high = omega (arith, high_is g.held g.way, at.low, put_bounds);
        fits = omega (arith, put_bounds);
      }

      module _ {s' : List ℕ} {r : Bool} (o : SourceWritten w s₁ s' p d h (most_abstractors - f.len - d) x r) where
        written : {R : Frame} {t : Term} {j : ℕ} {K : Term} (y : Held w f s n R t) (way : Way t p (var j)) → SourceIs w s p (depth_at 0 way) x K → ReadAs x.lift d h (most_abstractors - f.len - d) s₁ s' p K r
        written {K = K} y way i = o.all K (source_now y way i)

        same_length : length s' ≡ length s
        same_length = o.same_length ∙ c.same_length

        pub put_deep : r ≡ false → PutsTerm w f s s' n p x (Err Outgrown)
        put_deep q = record { all = λ R t j way K y i u. go y way i (subst (ReadAs x.lift d h (most_abstractors - f.len - d) s₁ s' p K) q (written y way i)); same_length = same_length }
          where
            go : {R : Frame} {t : Term} {j : ℕ} {K : Term} (y : Held w f s n R t) → (way : Way t p (var j)) → SourceIs w s p (depth_at 0 way) x K → ReadAs x.lift d h (most_abstractors - f.len - d) s₁ s' p K false
                → FormAs w f s' R (put way (lift x.lift 0 K)) (Err Outgrown)
            go {K = K} y way i (reading.too_deep z) = too_deep y way (lift x.lift 0 K) (omega (arith, scope_lift x.lift 0 K, deep_is y way, stored_depth y.stored, put_room))

        pub put_done : r ≡ true → PutsTerm w f s s' n p x (Ok (n - 1 + (x.end - x.start)))
        unfolding size
        put_done q = record { all = λ R t j way K y i u. go y way i u (subst (ReadAs x.lift d h (most_abstractors - f.len - d) s₁ s' p K) q (written y way i)); same_length = same_length }
          where
            go : {R : Frame} {t : Term} {j : ℕ} {K : Term} (y : Held w f s n R t) → (way : Way t p (var j)) → SourceIs w s p (depth_at 0 way) x K → Closed (depth R) (put way (lift x.lift 0 K))
                → ReadAs x.lift d h (most_abstractors - f.len - d) s₁ s' p K true → FormAs w f s' R (put way (lift x.lift 0 K)) (Ok (n - 1 + (x.end - x.start)))
            go {K = K} y way i u (read_all z m) =
                let v : letters d h (lift x.lift 0 K) ≡ letters (depth_at 0 way) (height_at 0 way) (lift x.lift 0 K) = rw (deep_is y way, high_is y way) refl in
                let count : length (letters (depth_at 0 way) (height_at 0 way) (lift x.lift 0 K)) ≡ x.end - x.start = length_letters (depth_at 0 way) (height_at 0 way) (lift x.lift 0 K) ∙ omega (arith, size_lift x.lift 0 K, source_size i) in
                put_held y way (lift x.lift 0 K) u (omega (arith, scope_lift x.lift 0 K, deep_is y way, stored_depth y.stored, put_room)) l
                (omega (arith, put_bounds, size_lift x.lift 0 K, source_size i)) refl
                (splice (omega (arith, put_bounds)) (omega (arith, put_bounds)) (omega (arith, count, put_bounds)) (subst (λ y. Copied s (p + 1) n s s₁ (p + y)) (sym count) c) (z ∙ ap (sets s₁ p) v) same_length)
