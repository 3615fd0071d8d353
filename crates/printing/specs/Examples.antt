-- Pages of request (b), computed: reading B1, every sort of cell, and a full line with one cell after it.
-- Assumes nothing.
use Rattle.std.specs.Prelude.{ℕ, zero, suc, ◌≡◌, List, [], ◌∷◌, ◌++◌, drop, replicate}
use Rattle.calculus.specs.Terms.{Term, tau, var, app, abs}
use Rattle.printing.specs.Page.{page}

abbrev pub blanks : ℕ → List ℕ
blanks n = replicate n 0x20

-- A line with one cell, whose four columns these are.
abbrev pub one_cell : List ℕ → List ℕ
one_cell s = s ++ (blanks 68 ++ 0x0a ∷ [])

-- [τ] n times, and then t.
unfoldable pub declarations : ℕ → Term → Term
declarations zero t = t
declarations (suc n) t = abs tau (declarations n t)

pub record Examples : Type 0 where
  -- B1: three blanks, t, 68 blanks, line feed
  pub b1 : page tau ≡ one_cell (0x20 ∷ 0x20 ∷ 0x20 ∷ 0x74 ∷ [])
  -- 7, 20, 253
  pub one_digit : page (var 7) ≡ one_cell (0x20 ∷ 0x20 ∷ 0x20 ∷ 0x37 ∷ [])
  pub two_digits : page (var 20) ≡ one_cell (0x20 ∷ 0x20 ∷ 0x32 ∷ 0x30 ∷ [])
  pub three_digits : page (var 253) ≡ one_cell (0x20 ∷ 0x32 ∷ 0x35 ∷ 0x33 ∷ [])
  -- ⟨τ⟩[τ]1 is A t T t 1
  pub letters : page (app tau (abs tau (var 1))) ≡ blanks 3 ++ 0x41 ∷ blanks 3 ++ 0x74 ∷ blanks 3 ++ 0x54 ∷ blanks 3 ++ 0x74 ∷ blanks 3 ++ 0x31 ∷ blanks 52 ++ 0x0a ∷ []
  -- [τ] nine times fills a line, so that 9 stands on the second
  pub two_lines : drop 73 (page (declarations 9 (var 9))) ≡ one_cell (0x20 ∷ 0x20 ∷ 0x20 ∷ 0x39 ∷ [])
