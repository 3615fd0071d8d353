-- The lines of the program `counts`, reading C1 among them, and a length over 7: number, accepted, refused 3 and refused 5.
-- Assumes nothing.
use Rattle.std.specs.Prelude.{ℕ, ◌≡◌}
use Rattle.counting.specs.Counts.{CountAnswer, count_answer}

abbrev pub line : ℕ → ℕ → ℕ → ℕ → CountAnswer
line n a m u = record { number = n; accepted = a; malformed = m; unbound = u }

pub record Examples : Type 0 where
  pub length_0 : count_answer 0 ≡ line 0 0 1 0
  pub length_1 : count_answer 1 ≡ line 0 1 2 253
  pub length_2 : count_answer 2 ≡ line 0 0 65536 0
  pub length_3 : count_answer 3 ≡ line 0 3 16648184 129029
  pub length_4 : count_answer 4 ≡ line 0 0 4294967296 0
  pub length_5 : count_answer 5 ≡ line 0 22 1099380531264 131096490
  pub length_6 : count_answer 6 ≡ line 0 0 281474976710656 0
  pub length_7 : count_answer 7 ≡ line 0 239 72057427545357696 166492570001
  pub length_8 : count_answer 8 ≡ line 15 0 0 0
