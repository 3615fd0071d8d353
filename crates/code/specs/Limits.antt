-- The limits of document 01, each named once.
-- Assumes nothing.
use Rattle.std.specs.Prelude.{ℕ}

-- Condition 4: 'file over 65,535 .. bytes'.
abbrev pub longest_file : ℕ
longest_file = 65535

-- Condition 4: 'term over 4,096 bytes'; condition 11: 'a compared body or written result over 4,096 bytes'.
abbrev pub longest_term : ℕ
longest_term = 4096

-- Condition 11: 'a state where R, W, Y and B together exceed 8,192 bytes'.
abbrev pub longest_state : ℕ
longest_state = 8192

-- Condition 6: 'over 253 abstractors in scope'; condition 11 counts the frame's too.
abbrev pub most_abstractors : ℕ
most_abstractors = 253
