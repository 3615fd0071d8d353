-- The sizes and scopes of all parts of a term, by its letters.
-- Assumes nothing.
use Prim.Native.Nat.{ℕ, suc, ◌+◌, ◌-◌, ◌≤◌, ◌<◌, max}
use mathlib.Core.Path.{◌≡◌, refl, ap, ap₂, sym, ◌∙◌}
use mathlib.Core.Bool.{Bool}
use mathlib.Core.List.{List, [], ◌∷◌, ◌++◌, map, map-append}
use native.Mathlib.Omega.{arith}
use native.Mathlib.Nat.{zero-add}
use native.Mathlib.Numerals.{add-one}
use lib.ListN.{length, get_or, set, drop, length-set, get_or-map, get_or-append}
use lib.Seq.{sets, sets-eq, get_or-set_same, get_or-set_other}
use borrow.Author.Tests.{le-leb, lt-leb}
use Rattle.calculus.specs.Terms.{Term, size}
use Rattle.calculus.proofs.Lift.{Cmp, lo, hi, cmp, lift_zero}
use Rattle.code.specs.Limits.{longest_term, most_abstractors}
use Rattle.code.specs.Code.{encode, Coded, coded_tau, coded_var, coded_app, coded_abs}
use Rattle.code.specs.Claims.{Stands}
use Rattle.code.specs.Scope.{scope}
use Rattle.code.proofs.RoundTrip.{length_encode}
use Rattle.code.proofs.Parts.{Head, head_tau, head_var, head_app, head_abs, head, stands_start, stands_end}
use Rattle.indices.proofs.Walk.{scope_size}
use Rattle.letters.specs.Letters.{letters, symbol_of, depth_of}
use Rattle.letters.specs.Clauses.{Readable, ReadAs, read_all, Reads}
use Rattle.letters.specs.Clauses as reading
use Rattle.letters.proofs.Letters.{symbol_letter, length_letters}
use Rattle.texts.specs.Texts.{Sized, WholeTerm, depths_of, Depths}
use Rattle.texts.specs.Clauses.{symbol_for, Lettered, SizedFrom, Measurable, ExtentAt, Notable, DepthsNoted}
use Rattle.texts.specs.declared.Extent.{Extent}
use Rattle.texts.proofs.Depths.{letters_depths, depth_below, Part, every, depths_all}

-- ---- The symbol of a byte.
terminal_symbol : {b : ℕ} → b < 0xfe → symbol_for b ≡ b
unfolding symbol_for
terminal_symbol {b} l = rw (lt-leb 0xfe b l) refl

operator_symbol : {b : ℕ} → 0xfe ≤ b → symbol_for b ≡ b + 768
unfolding symbol_for
operator_symbol {b} l = rw (le-leb 0xfe b l) refl

-- ---- The letters of a term have its symbols.
letters_symbols : {t : Term} (d h : ℕ) → Coded t → map symbol_of (letters d h t) ≡ map symbol_for (encode t)
unfolding letters encode
letters_symbols d h coded_tau = ap (◌∷ []) (symbol_letter 0 d h (omega arith) ∙ sym (terminal_symbol (omega arith)))
letters_symbols d h (coded_var {k} p q) = ap (◌∷ []) (symbol_letter k d h (omega arith) ∙ sym (terminal_symbol (omega arith)))
letters_symbols d h (coded_app {K} {B} f g) = ap₂ ◌∷◌ (symbol_letter 1022 d h (omega arith) ∙ sym (operator_symbol (omega arith)))
    (map-append symbol_of (letters d (suc h) K) (letters d h B) ∙ ap₂ ◌++◌ (letters_symbols d (suc h) f) (letters_symbols d h g) ∙ sym (map-append symbol_for (encode K) (encode B)))
letters_symbols d h (coded_abs {U} {B} f g) = ap₂ ◌∷◌ (symbol_letter 1023 d h (omega arith) ∙ sym (operator_symbol (omega arith)))
    (map-append symbol_of (letters d (suc h) U) (letters (suc d) h B) ∙ ap₂ ◌++◌ (letters_symbols d (suc h) f) (letters_symbols (suc d) h g) ∙ sym (map-append symbol_for (encode U) (encode B)))

same_size : {t : List ℕ} (g : WholeTerm t) → length t ≡ size g.term
same_size g = omega (arith, g.stands.place)

module _ {t : List ℕ} (g : WholeTerm t) (out : List ℕ) (n : length out ≡ longest_term) where
  pub whole_readable : Readable t 0 (length t) 0 0 0 most_abstractors out 0
  whole_readable = record {
    standing = record { term = g.term; stands = g.stands; short = omega (arith, g.short) };
    index = omega arith;
    deep = omega arith;
    high = omega (arith, g.short);
    fits = omega (arith, g.short);
  }

  module _ {out' : List ℕ} (q : out' ≡ sets out 0 (letters 0 0 g.term)) (i : ℕ) (l : i < length t) where
    letter_there : get_or out' i 0 ≡ get_or (letters 0 0 g.term) i 0
    letter_there =
        let m : length (letters 0 0 g.term) ≡ length t = length_letters 0 0 g.term ∙ sym (same_size g) in
        let e : out' ≡ letters 0 0 g.term ++ drop (0 + length (letters 0 0 g.term)) out = q ∙ sets-eq (letters 0 0 g.term) out 0 (omega (arith, m, n, g.short)) in
        ap (λ x. get_or x i 0) e ∙ get_or-append (letters 0 0 g.term) (drop (0 + length (letters 0 0 g.term)) out) 0 i (omega (arith, m))

    byte_there : get_or t i 0 ≡ get_or (encode g.term) i 0
    byte_there = ap (λ x. get_or x i 0) g.stands.bytes ∙ get_or-append (encode g.term) g.stands.rest 0 i (omega (arith, length_encode g.term, same_size g))

    symbol_there : symbol_of (get_or out' i 0) ≡ symbol_for (get_or t i 0)
    unfolding symbol_for
    symbol_there =
        ap symbol_of letter_there ∙ sym (get_or-map symbol_of (letters 0 0 g.term) i 0) ∙ ap (λ x. get_or x i 0) (letters_symbols 0 0 g.stands.coded)
        ∙ get_or-map symbol_for (encode g.term) i 0 ∙ ap symbol_for (sym byte_there)

  read_whole : {out' : List ℕ} {r : Bool} → Reads t 0 (length t) 0 0 0 most_abstractors out out' 0 r → out' ≡ sets out 0 (letters 0 0 g.term)
  read_whole {out'} {r} k = go (k.all g.term g.stands)
    where
      go : {r : Bool} → ReadAs 0 0 0 most_abstractors out out' 0 g.term r → out' ≡ sets out 0 (letters 0 0 g.term)
      go (read_all e s) = e ∙ ap (λ u. sets out 0 (letters 0 0 u)) (lift_zero 0 g.term)
      go (reading.too_deep s) = absurd (omega (arith, g.shallow))

  pub whole_lettered : {out' : List ℕ} {r : Bool} → Reads t 0 (length t) 0 0 0 most_abstractors out out' 0 r → Lettered t out'
  whole_lettered k = record { symbols_are = λ i l. symbol_there (read_whole k) i l }

-- ---- The letters of a term have its depths.
module _ {t : List ℕ} (g : WholeTerm t) (out : List ℕ) (n : length out ≡ longest_term) {out' : List ℕ} {r : Bool} (k : Reads t 0 (length t) 0 0 0 most_abstractors out out' 0 r) where
  depth_there : (i : ℕ) → i < length t → depth_of (get_or out' i 0) ≡ get_or (depths_of 0 g.term) i 0
  depth_there i l = ap depth_of (letter_there g out n (read_whole g out n k) i l) ∙ sym (get_or-map depth_of (letters 0 0 g.term) i 0)
      ∙ ap (λ x. get_or x i 0) (letters_depths 0 0 g.stands.coded (omega (arith, g.shallow)))

  pub notable : {depths : List ℕ} → length t ≤ length depths → Notable out' depths (length t)
  notable l = record {
    short = g.short;
    small = λ i h. omega (arith, depth_there i h, depth_below 0 g.term 253 (omega (arith, g.shallow)) i);
    long = l;
  }

  pub depths_known : {depths depths' : List ℕ} → DepthsNoted out' depths depths' (length t) → Depths t depths'
  depths_known {depths' = depths'} d = depths_all g.stands (record { each = λ i l. let m : i < length t = omega (arith, same_size g) in ap (λ x. get_or depths' x 0) (zero-add i) ∙ d.noted i m ∙ depth_there i m })

-- The depths noted so far.
pub noted_none : (letters depths : List ℕ) → DepthsNoted letters depths depths 0
noted_none letters depths = record { noted = λ i l. absurd (omega arith); same_length = refl }

pub noted_more : {letters depths₀ depths : List ℕ} {i x : ℕ} → DepthsNoted letters depths₀ depths i → i < length depths₀ → x ≡ depth_of (get_or letters i 0) → DepthsNoted letters depths₀ (set depths i x) (i + 1)
noted_more {letters} {depths₀} {depths} {i} {x} d l e = record {
  noted = λ j h. elim (cmp i j) [
    | lo a ↦ let q : j ≡ i = omega arith in rw q (get_or-set_same depths i x 0 (omega (arith, d.same_length)) ∙ e)
    | hi a ↦ get_or-set_other depths i j x 0 (λ z. omega arith) ∙ d.noted j a
  ];
  same_length = length-set depths i x ∙ d.same_length;
}

-- ---- What a symbol says of the byte.
module _ {t letters : List ℕ} {i e s : ℕ} {X : Term} (k : Lettered t letters) (h : Stands t i e X) (q : s ≡ symbol_of (get_or letters i 0)) where
  symbol_is : s ≡ symbol_for (get_or t i 0)
  symbol_is = q ∙ k.symbols_are i (omega (arith, stands_start h, stands_end h))

  low_byte : s < 1022 → get_or t i 0 < 0xfe
  low_byte l = elim (cmp 0xfe (get_or t i 0)) [ lo a ↦ absurd (omega (arith, symbol_is, operator_symbol a)) | hi a ↦ a ]

  high_byte : 1022 ≤ s → get_or t i 0 ≡ s - 768
  high_byte l = elim (cmp 0xfe (get_or t i 0)) [ lo a ↦ omega (arith, symbol_is, operator_symbol a) | hi a ↦ absurd (omega (arith, symbol_is, terminal_symbol a)) ]

-- ---- The size and the scope of one term.
pub leaf_extent : {letters sizes scopes : List ℕ} {i s : ℕ} → s ≡ symbol_of (get_or letters i 0) → s < 1022 → ExtentAt letters sizes scopes i (record { size = 1; scope = 0 })
unfolding size scope
leaf_extent {letters} {sizes} {scopes} {i} {s} q l = record { size_is = λ t e X k f h. sz (low_byte k h q l) (head h); scope_is = λ t e X k f h. sc (low_byte k h q l) (head h) }
  where
    sz : {t : List ℕ} {e : ℕ} {X : Term} → get_or t i 0 < 0xfe → Head t i e X → 1 ≡ size X
    sz b (head_tau x y) = refl
    sz b (head_var x y u v) = refl
    sz b (head_app x y u) = absurd (omega arith)
    sz b (head_abs x y u) = absurd (omega arith)

    sc : {t : List ℕ} {e : ℕ} {X : Term} → get_or t i 0 < 0xfe → Head t i e X → 0 ≡ scope X
    sc b (head_tau x y) = refl
    sc b (head_var x y u v) = refl
    sc b (head_app x y u) = absurd (omega arith)
    sc b (head_abs x y u) = absurd (omega arith)

pub place_bound : {letters sizes scopes : List ℕ} {i : ℕ} → Measurable letters sizes scopes i → i < 4096
place_bound g = omega (arith, stands_start g.stands, stands_end g.stands, g.short)

-- The place m is within the arrays.
pub record Inside (sizes scopes : List ℕ) (m : ℕ) : Type 0 where
  pub bound : m < 4096
  pub sized : m < length sizes
  pub scoped : m < length scopes

module _ {letters sizes scopes : List ℕ} {i s : ℕ} (g : Measurable letters sizes scopes i) (q : s ≡ symbol_of (get_or letters i 0)) (b : 1022 ≤ s) where
  high : 0xfe ≤ get_or g.text i 0
  high = omega (arith, high_byte g.lettered g.stands q b)

  pub first_inside : Inside sizes scopes (i + 1)
  first_inside = go (head g.stands)
    where
      one : {m : ℕ} {K : Term} → Stands g.text (suc i) m K → Inside sizes scopes (i + 1)
      one k = record {
        bound = omega (arith, stands_start k, stands_end k, g.short);
        sized = omega (arith, stands_start k, stands_end k, g.sizes_long);
        scoped = omega (arith, stands_start k, stands_end k, g.scopes_long);
      }

      go : {X : Term} → Head g.text i g.end X → Inside sizes scopes (i + 1)
      go (head_tau x y) = absurd (omega (arith, high))
      go (head_var x y u v) = absurd (omega (arith, high))
      go (head_app x y u) = one y
      go (head_abs x y u) = one y

  pub second_inside : {a : ℕ} → a ≡ get_or sizes (i + 1) 0 → Inside sizes scopes (i + 1 + a)
  second_inside {a} qa = go (head g.stands)
    where
      two : {m : ℕ} {K B : Term} → Stands g.text (suc i) m K → Stands g.text m g.end B → Inside sizes scopes (i + 1 + a)
      two {m} {K} {B} k l =
          let e = g.known.sizes_are (i + 1) m K (omega arith) (rw add-one k) in
          let n : i + 1 + a ≡ m = omega (arith, e, k.place) in
          record {
            bound = omega (arith, stands_start l, stands_end l, g.short);
            sized = omega (arith, stands_start l, stands_end l, g.sizes_long);
            scoped = omega (arith, stands_start l, stands_end l, g.scopes_long);
          }

      go : {X : Term} → Head g.text i g.end X → Inside sizes scopes (i + 1 + a)
      go (head_tau x y) = absurd (omega (arith, high))
      go (head_var x y u v) = absurd (omega (arith, high))
      go (head_app x y u) = two y u
      go (head_abs x y u) = two y u

module _ {sizes scopes : List ℕ} {i a c x y m : ℕ} (qa : a ≡ get_or sizes (i + 1) 0) (qm : m ≡ i + 1 + a) (qx : x ≡ get_or scopes (i + 1) 0) (qc : c ≡ get_or sizes m 0) (qy : y ≡ get_or scopes m 0) where
  parts : {t : List ℕ} {e m' : ℕ} {K B : Term} → SizedFrom t sizes scopes (i + 1) → Stands t (suc i) m' K → Stands t m' e B → (a ≡ size K) × (c ≡ size B) × (x ≡ scope K) × (y ≡ scope B)
  parts {t} {e} {m'} {K} {B} f k l =
      let k' : Stands t (i + 1) m' K = rw add-one k in
      let u = f.sizes_are (i + 1) m' K (omega arith) k' in
      let n : m ≡ m' = omega (arith, u, k.place) in
      let l' : Stands t m e B = rw n l in
      (qa ∙ u, qc ∙ f.sizes_are m e B (omega (arith, k.place)) l', qx ∙ f.scopes_are (i + 1) m' K (omega arith) k', qy ∙ f.scopes_are m e B (omega (arith, k.place)) l')

  module _ {letters : List ℕ} {s : ℕ} (qs : s ≡ symbol_of (get_or letters i 0)) where
    pub app_extent : {n r : ℕ} → s ≡ 1022 → n ≡ 1 + a + c → r ≡ max x y → ExtentAt letters sizes scopes i (record { size = n; scope = r })
    unfolding size scope
    app_extent {n} {r} w v z = record {
      size_is = λ t e X k f h. sz f (high_byte k h qs (omega arith)) (head h);
      scope_is = λ t e X k f h. sc f (high_byte k h qs (omega arith)) (head h);
    }
      where
        sz : {t : List ℕ} {e : ℕ} {X : Term} → SizedFrom t sizes scopes (i + 1) → get_or t i 0 ≡ s - 768 → Head t i e X → n ≡ size X
        sz f b (head_tau x y) = absurd (omega arith)
        sz f b (head_var x y u v) = absurd (omega arith)
        sz f b (head_app j k l) = let p = parts f k l in omega (arith, p.0, p.1)
        sz f b (head_abs j k l) = absurd (omega arith)

        sc : {t : List ℕ} {e : ℕ} {X : Term} → SizedFrom t sizes scopes (i + 1) → get_or t i 0 ≡ s - 768 → Head t i e X → r ≡ scope X
        sc f b (head_tau x y) = absurd (omega arith)
        sc f b (head_var x y u v) = absurd (omega arith)
        sc f b (head_app j k l) = let p = parts f k l in omega (arith, p.2, p.3)
        sc f b (head_abs j k l) = absurd (omega arith)

    pub abs_extent : {n r : ℕ} → 1022 ≤ s → (s ≡ 1022 → ⊥) → n ≡ 1 + a + c → r ≡ max x (y + 1) → ExtentAt letters sizes scopes i (record { size = n; scope = r })
    unfolding size scope
    abs_extent {n} {r} w o v z = record {
      size_is = λ t e X k f h. sz f (high_byte k h qs w) (head h);
      scope_is = λ t e X k f h. sc f (high_byte k h qs w) (head h);
    }
      where
        sz : {t : List ℕ} {e : ℕ} {X : Term} → SizedFrom t sizes scopes (i + 1) → get_or t i 0 ≡ s - 768 → Head t i e X → n ≡ size X
        sz f b (head_tau x y) = absurd (omega arith)
        sz f b (head_var x y u v) = absurd (omega arith)
        sz f b (head_app j k l) = absurd (o (omega arith))
        sz f b (head_abs j k l) = let p = parts f k l in omega (arith, p.0, p.1)

        sc : {t : List ℕ} {e : ℕ} {X : Term} → SizedFrom t sizes scopes (i + 1) → get_or t i 0 ≡ s - 768 → Head t i e X → r ≡ scope X
        sc f b (head_tau x y) = absurd (omega arith)
        sc f b (head_var x y u v) = absurd (omega arith)
        sc f b (head_app j k l) = absurd (o (omega arith))
        sc f b (head_abs j k l) = let p = parts f k l in omega (arith, p.2, p.3)

-- ---- All of them, from the last to the first: those from i on are known.
pub record MeasuredFrom (t letters sizes₀ scopes₀ sizes scopes : List ℕ) (i : ℕ) : Type 0 where
  pub whole : WholeTerm t
  pub lettered : Lettered t letters
  pub sizes_long : length t ≤ length sizes
  pub scopes_long : length t ≤ length scopes
  pub same_sizes : length sizes ≡ length sizes₀
  pub same_scopes : length scopes ≡ length scopes₀
  pub within : i ≤ length t
  pub known : SizedFrom t sizes scopes i

module _ {t letters sizes₀ scopes₀ : List ℕ} where
  pub measured_none : WholeTerm t → Lettered t letters → length t ≤ length sizes₀ → length t ≤ length scopes₀ → MeasuredFrom t letters sizes₀ scopes₀ sizes₀ scopes₀ (length t)
  measured_none g b m n = record {
    whole = g;
    lettered = b;
    sizes_long = m;
    scopes_long = n;
    same_sizes = refl;
    same_scopes = refl;
    within = omega arith;
    known = record { sizes_are = λ p e X h k. absurd (omega (arith, stands_start k, stands_end k)); scopes_are = λ p e X h k. absurd (omega (arith, stands_start k, stands_end k)) };
  }

  module _ {sizes scopes : List ℕ} {i : ℕ} (s : MeasuredFrom t letters sizes₀ scopes₀ sizes scopes i) where
    pub measured_all : i ≤ 0 → Sized t sizes scopes
    measured_all h = record { sizes_are = λ p e X k. s.known.sizes_are p e X (omega arith) k; scopes_are = λ p e X k. s.known.scopes_are p e X (omega arith) k }

    module _ (l : 0 < i) where
      part : Part t (depths_of 0 s.whole.term) (i - 1)
      part = every s.whole.term s.whole.stands (record { each = λ j l. ap (λ x. get_or (depths_of 0 s.whole.term) x 0) (zero-add j) }) (i - 1) (omega arith) (omega (arith, s.within))

      later : SizedFrom t sizes scopes (i - 1 + 1)
      later = record { sizes_are = λ p e X h. s.known.sizes_are p e X (omega arith); scopes_are = λ p e X h. s.known.scopes_are p e X (omega arith) }

      pub measurable : Measurable letters sizes scopes (i - 1)
      measurable = record {
        text = t;
        lettered = s.lettered;
        known = later;
        end = part.end;
        term = part.term;
        stands = part.stands;
        short = s.whole.short;
        sizes_long = s.sizes_long;
        scopes_long = s.scopes_long;
      }

      pub here : Inside sizes scopes (i - 1)
      here = record { bound = omega (arith, s.within, s.whole.short); sized = omega (arith, s.within, s.sizes_long); scoped = omega (arith, s.within, s.scopes_long) }

      module _ {r : Extent} (f : ExtentAt letters sizes scopes (i - 1) r) where
        pub small_extent : (r.size < 65536) × (r.scope < 65536)
        small_extent =
            let k = part in
            let n : size k.term ≤ 4096 = omega (arith, k.stands.place, stands_end k.stands, s.whole.short) in
            (omega (arith, f.size_is t k.end k.term s.lettered later k.stands), omega (arith, f.scope_is t k.end k.term s.lettered later k.stands, scope_size k.term))

        pub measured_more : MeasuredFrom t letters sizes₀ scopes₀ (set sizes (i - 1) r.size) (set scopes (i - 1) r.scope) (i - 1)
        measured_more = record {
          whole = s.whole;
          lettered = s.lettered;
          sizes_long = simp length-set s.sizes_long;
          scopes_long = simp length-set s.scopes_long;
          same_sizes = length-set sizes (i - 1) r.size ∙ s.same_sizes;
          same_scopes = length-set scopes (i - 1) r.scope ∙ s.same_scopes;
          within = omega (arith, s.within);
          known = record { sizes_are = λ p e X h k. sz p e X h k (cmp p (i - 1)); scopes_are = λ p e X h k. sc p e X h k (cmp p (i - 1)) };
        }
          where
            sz : (p e : ℕ) (X : Term) → i - 1 ≤ p → Stands t p e X → Cmp p (i - 1) → get_or (set sizes (i - 1) r.size) p 0 ≡ size X
            sz p e X h k (lo a) =
                let n : p ≡ i - 1 = omega arith in
                ap (λ x. get_or (set sizes (i - 1) r.size) x 0) n ∙ get_or-set_same sizes (i - 1) r.size 0 here.sized ∙ f.size_is t e X s.lettered later (rw (← n) k)
            sz p e X h k (hi a) = get_or-set_other sizes (i - 1) p r.size 0 (λ z. omega arith) ∙ s.known.sizes_are p e X (omega arith) k

            sc : (p e : ℕ) (X : Term) → i - 1 ≤ p → Stands t p e X → Cmp p (i - 1) → get_or (set scopes (i - 1) r.scope) p 0 ≡ scope X
            sc p e X h k (lo a) =
                let n : p ≡ i - 1 = omega arith in
                ap (λ x. get_or (set scopes (i - 1) r.scope) x 0) n ∙ get_or-set_same scopes (i - 1) r.scope 0 here.scoped ∙ f.scope_is t e X s.lettered later (rw (← n) k)
            sc p e X h k (hi a) = get_or-set_other scopes (i - 1) p r.scope 0 (λ z. omega arith) ∙ s.known.scopes_are p e X (omega arith) k
