-- How many turns some short checks take, in one table.
-- Assumes nothing.
use Rattle.std.specs.Prelude.{ℕ, ◌≡◌, List, [], ◌∷◌, map}
use Rattle.calculus.specs.Terms.{Term, tau, var, app, abs}
use Rattle.calculus.specs.Rules.{Group}
use Rattle.calculus.specs.Examples.{no_steps, e2}
use Rattle.verdict.specs.Verdict.{check_term}
use Rattle.verdict.specs.Claims.{progress_of}

pub record Example : Type 0 where
  pub term : Term
  pub groups : List Group
  pub turns : ℕ

abbrev pub takes : Term → List Group → ℕ → Example
takes t gs n = record { term = t; groups = gs; turns = n }

abbrev pub unknown_kind : Group
unknown_kind = record { left = record { kind = 9; place = 0 } ∷ []; right = [] }

abbrev pub table : List Example
table =
    -- a variable of the term's own text is two states, (vii) and (viii)
    takes (abs tau (var 1)) [] 5
    -- the tests of a comparison and 13 cost no turn: 7; 8; 9; 10, whose step is a turn; accepted; 13
    ∷ takes (app tau (abs tau tau)) [] 4
    ∷ takes (app tau tau) [] 3
    ∷ takes e2 [] 15
    ∷ takes e2 (unknown_kind ∷ []) 16
    ∷ takes e2 (no_steps ∷ []) 19
    ∷ takes tau (no_steps ∷ []) 1
    ∷ []

pub record Examples : Type 0 where
  pub counted : map (λ e. (progress_of (check_term e.term e.groups)).turns) table ≡ map (λ e. e.turns) table
