-- Walks, computed; and those of the worked examples.
-- Assumes nothing.
use Prim.Native.Nat.{ℕ, zero, suc}
use mathlib.Core.Path.{◌≡◌, refl}
use mathlib.Core.List.{List, [], ◌∷◌, ◌++◌}
use Rattle.calculus.specs.Terms.{tau, var, lift, lift_index}
use Rattle.calculus.specs.Frames.{domain, pair, ε, ◌▹◌, entry_at}
use Rattle.calculus.specs.Rules.{lift_all, State, own, Comparison, compare, Question, holds, same, Next, asks, stops, typed, plain_next, one_pass_next}
use Rattle.calculus.specs.Walks.{End, finished, stopped, Walk, walk_end, walk_same, walk_asks, walk_stops, WalkFrom}
use Rattle.calculus.specs.Examples.{e3, e5, body, two, defined, undefined, two_wait, unused_pair, k_inside, u_inside, in_order, both_taken, three, taking, first, second}

-- where the questions lead, if that is known after so many of them
data Result : Type 0 where
  leads_to : List Comparison → End → Result
  unknown : Result

unfoldable after_same : Comparison → Result → Result
after_same c (leads_to cs e) = leads_to (c ∷ cs) e
after_same c unknown = unknown

unfoldable replaced : (List Question → Result) → Next → List Question → Result
replaced more (asks ps) qs = more (ps ++ qs)
replaced more (stops x) qs = leads_to [] (stopped x)

unfoldable walked : (State → Next) → ℕ → List Question → Result
walked next zero qs = unknown
walked next (suc n) [] = leads_to [] finished
walked next (suc n) (same c ∷ qs) = after_same c (walked next n qs)
walked next (suc n) (holds s ∷ qs) = replaced (walked next n) (next s) qs

-- it is the walk
abbrev Right : (State → Next) → List Question → Result → Type 0
Right next qs (leads_to cs e) = Walk next qs cs e
Right next qs unknown = Unit {0}

right_same : (next : State → Next) (c : Comparison) (qs : List Question) (r : Result) → Right next qs r → Right next (same c ∷ qs) (after_same c r)
unfolding after_same
right_same next c qs (leads_to cs e) w = walk_same w
right_same next c qs unknown w = tt

right_state : (next : State → Next) (s : State) (qs : List Question) (more : List Question → Result) → ((ps : List Question) → Right next ps (more ps))
    → (m : Next) → next s ≡ m → Right next (holds s ∷ qs) (replaced more m qs)
unfolding replaced
right_state next s qs more w (asks ps) h = go (more (ps ++ qs)) (w (ps ++ qs))
  where
    go : (r : Result) → Right next (ps ++ qs) r → Right next (holds s ∷ qs) r
    go (leads_to cs e) w = walk_asks h w
    go unknown w = tt
right_state next s qs more w (stops x) h = walk_stops h

right : (next : State → Next) (n : ℕ) (qs : List Question) → Right next qs (walked next n qs)
unfolding walked
right next zero qs = tt
right next (suc n) [] = walk_end
right next (suc n) (same c ∷ qs) = right_same next c qs (walked next n qs) (right next n qs)
right next (suc n) (holds s ∷ qs) = right_state next s qs (walked next n) (right next n) (next s) refl

is_walk : (next : State → Next) (n : ℕ) (qs : List Question) {cs : List Comparison} {e : End} → walked next n qs ≡ leads_to cs e → Walk next qs cs e
is_walk next n qs h = rw h at (right next n qs)

-- more questions than any of the examples has
abbrev many : ℕ
many = 60

pub e3_demands : WalkFrom one_pass_next (own ε [] e3) (compare two (var 2) tau ∷ compare defined (var 2) (var 1) ∷ []) finished
unfolding walked after_same replaced one_pass_next typed entry_at lift lift_index domain lift_all
e3_demands = is_walk one_pass_next many (holds (own ε [] e3) ∷ []) refl

pub two_wait_demands : WalkFrom plain_next (own ε [] two_wait) (compare two (var 2) tau ∷ compare defined (var 2) (var 1) ∷ []) finished
unfolding walked after_same replaced plain_next typed entry_at lift lift_index domain lift_all
two_wait_demands = is_walk plain_next many (holds (own ε [] two_wait) ∷ []) refl

pub e5_demands : WalkFrom one_pass_next (own ε [] e5) (compare three (var 1) (var 3) ∷ []) finished
unfolding walked after_same replaced one_pass_next typed entry_at lift lift_index domain lift_all
e5_demands = is_walk one_pass_next many (holds (own ε [] e5) ∷ []) refl

pub unused_pair_demands : WalkFrom one_pass_next (own ε [] unused_pair) (compare first (var 1) tau ∷ compare second (var 1) (var 2) ∷ []) finished
unfolding walked after_same replaced one_pass_next typed entry_at lift lift_index domain lift_all
unused_pair_demands = is_walk one_pass_next many (holds (own ε [] unused_pair) ∷ []) refl

pub body_demands : WalkFrom plain_next (own two [] body) (compare undefined (var 2) (var 1) ∷ []) finished
unfolding walked after_same replaced plain_next typed entry_at lift lift_index domain lift_all
body_demands = is_walk plain_next many (holds (own two [] body) ∷ []) refl

pub body_demands_one_pass : WalkFrom one_pass_next (own two [] body) (compare undefined (var 2) (var 1) ∷ []) finished
unfolding walked after_same replaced one_pass_next typed entry_at lift lift_index domain lift_all
body_demands_one_pass = is_walk one_pass_next many (holds (own two [] body) ∷ []) refl

pub in_order_demands : WalkFrom one_pass_next (own ε [] in_order)
    (compare two (var 1) (var 2) ∷ compare two (var 2) tau ∷ compare two k_inside u_inside ∷ compare (two ▹ pair k_inside u_inside) (var 2) (var 3) ∷ []) finished
unfolding walked after_same replaced one_pass_next typed entry_at lift lift_index domain lift_all
in_order_demands = is_walk one_pass_next many (holds (own ε [] in_order) ∷ []) refl

pub both_taken_demands : WalkFrom one_pass_next (own ε [] both_taken) (compare taking (var 1) (var 3) ∷ compare (taking ▹ pair (var 1) (var 3)) (var 2) (var 4) ∷ []) finished
unfolding walked after_same replaced one_pass_next typed entry_at lift lift_index domain lift_all
both_taken_demands = is_walk one_pass_next many (holds (own ε [] both_taken) ∷ []) refl
