-- Document 01, 'Examples to carry in the proofs': E1 with its degree and its type, E2 to E9, and example 11; some more of the type
-- and the step, with the buffer that is left: aa is a byte that was there before; and the readings of requests (a), (b), (d), (e) and (g), and
-- lines put in front (h).
-- Assumes nothing.
use Rattle.std.specs.Prelude.{ℕ, zero, suc, ◌≡◌, List, [], ◌∷◌, ◌++◌, map}
use Rattle.examine.specs.Inspect.{TermAnswer, term_answer}
use Rattle.calculus.specs.Steps.{Reading, pairs, base, full}
use Rattle.files.specs.Check.{CheckAnswer, check_file_by, check_file}
use Rattle.calls.specs.Answers.{Written, nothing, answer, type_answer, step_answer}
use Rattle.printing.specs.Page.{print_answer}
use Rattle.explaining.specs.Explain.{Explanation, explain_file}
use Rattle.sets.specs.Sets.{SetAnswer, check_set}

-- A call with what it is given: a term; a file; a set; a file, under a reading before a request; a file and two buffers; a term and a
-- buffer; a term, a step's kind and place, and a buffer.
pub data Call : Type 0 where
  examine_term_call check_file_call check_set_call : List ℕ → Call
  check_by : Reading → List ℕ → Call
  explain_file_call : (s left right : List ℕ) → Call
  write_type_call print_term_call : List ℕ → List ℕ → Call
  apply_step_call : List ℕ → (kind place : ℕ) → List ℕ → Call

-- Its answer: number, place and degree; number, place, comparisons and degree; these with a file's number before them, or with three
-- numbers and the two buffers after them; 'none', or number, place, length, and the buffer.
pub data Answer : Type 0 where
  of_term : TermAnswer → Answer
  of_file : CheckAnswer → Answer
  of_set : SetAnswer → Answer
  of_ground : Explanation → Answer
  of_buffer : Written → Answer

abbrev pub answer_to : Call → Answer
answer_to (examine_term_call s) = of_term (term_answer s)
answer_to (check_file_call s) = of_file (check_file s)
answer_to (check_set_call s) = of_set (check_set s)
answer_to (check_by y s) = of_file (check_file_by y s)
answer_to (explain_file_call s left right) = of_ground (explain_file s left right)
answer_to (write_type_call s out) = of_buffer (type_answer s out)
answer_to (print_term_call s out) = of_buffer (print_answer s out)
answer_to (apply_step_call s kind place out) = of_buffer (step_answer s (record { kind = kind; place = place }) out)

pub record Example : Type 0 where
  pub call : Call
  pub gives : Answer

abbrev pub examine_gives : List ℕ → (number place degree : ℕ) → Example
examine_gives s n p d = record { call = examine_term_call s; gives = of_term (record { number = n; place = p; degree = d }) }

abbrev pub check_gives : List ℕ → (number place comparisons degree : ℕ) → Example
check_gives s n p c d = record { call = check_file_call s; gives = of_file (record { number = n; place = p; comparisons = c; degree = d }) }

abbrev pub set_gives : List ℕ → (file number place comparisons degree : ℕ) → Example
set_gives s f n p c d = record { call = check_set_call s; gives = of_set (record { file = f; number = n; place = p; comparisons = c; degree = d }) }

abbrev pub former_gives : Reading → List ℕ → (number place comparisons degree : ℕ) → Example
former_gives y s n p c d = record { call = check_by y s; gives = of_file (record { number = n; place = p; comparisons = c; degree = d }) }

-- A file and two buffers, what it tells, and the buffers after it.
abbrev pub explain_gives : (s left right : List ℕ) → (number place comparisons degree first second third : ℕ) → (left' right' : List ℕ) → Example
explain_gives s left right n p c d x y z left' right' = record {
  call = explain_file_call s left right;
  gives = of_ground (record { answer = record { number = n; place = p; comparisons = c; degree = d }; first = x; second = y; third = z; left = left'; right = right' });
}

-- Where both stay as they are, empty.
abbrev pub tells : List ℕ → (number place comparisons degree first second third : ℕ) → Example
tells s n p c d x y z = explain_gives s [] [] n p c d x y z [] []

abbrev pub type_gives : (s out : List ℕ) → Written → Example
type_gives s out w = record { call = write_type_call s out; gives = of_buffer w }

abbrev pub print_gives : (s out : List ℕ) → Written → Example
print_gives s out w = record { call = print_term_call s out; gives = of_buffer w }

abbrev pub step_gives : List ℕ → (kind place : ℕ) → List ℕ → Written → Example
step_gives s k p out w = record { call = apply_step_call s k p out; gives = of_buffer w }

-- A file: a term of so many bytes, below 256, and then its groups.
abbrev pub file : ℕ → List ℕ → List ℕ → List ℕ
file n t gs = 0x01 ∷ 0x00 ∷ n ∷ (t ++ gs)

-- A group of left steps and right steps, of so many bytes, below 256; an empty one; and one with a right step of some kind at place 0.
abbrev pub group_of : ℕ → List ℕ → ℕ → List ℕ → List ℕ
group_of n left m right = 0x02 ∷ 0x00 ∷ n ∷ (left ++ 0x03 ∷ 0x00 ∷ m ∷ right)

abbrev pub group : List ℕ
group = group_of 0 [] 0 []

abbrev pub right_step : ℕ → List ℕ
right_step kind = group_of 0 [] 3 (kind ∷ 0x00 ∷ 0x00 ∷ [])

-- A file in a set, of so many bytes, below 256.
abbrev pub in_set : ℕ → List ℕ → List ℕ
in_set n f = 0x05 ∷ 0x00 ∷ n ∷ f

-- Two steps of some kind at place 0.
abbrev pub twice : ℕ → List ℕ
twice kind = kind ∷ 0x00 ∷ 0x00 ∷ kind ∷ 0x00 ∷ 0x00 ∷ []

-- n times s; and n times ff 00, or fe 00, and then s.
unfoldable pub times : ℕ → List ℕ → List ℕ
times zero s = []
times (suc n) s = s ++ times n s

abbrev pub abstractors : ℕ → List ℕ → List ℕ
abstractors n s = times n (0xff ∷ 0x00 ∷ []) ++ s

abbrev pub applicators : ℕ → List ℕ → List ℕ
applicators n s = times n (0xfe ∷ 0x00 ∷ []) ++ s

abbrev pub e1 : List ℕ
e1 = 0xff ∷ 0x00 ∷ 0xff ∷ 0x01 ∷ 0x01 ∷ []

abbrev pub e2 : List ℕ
e2 = 0xff ∷ 0x00 ∷ 0xff ∷ 0x01 ∷ 0xfe ∷ 0x01 ∷ 0xff ∷ 0x02 ∷ 0x01 ∷ []

abbrev pub e3 : List ℕ
e3 = 0xff ∷ 0x00 ∷ 0xff ∷ 0x01 ∷ 0xfe ∷ 0x02 ∷ 0xff ∷ 0x00 ∷ 0xfe ∷ 0x02 ∷ 0xff ∷ 0x01 ∷ 0x01 ∷ []

-- the lines [τ]⟨1⟩[τ], and [τ][τ][2]⟨1⟩[3]⟨4⟩[τ]⟨2⟩[1]1
abbrev pub new_lines : List ℕ
new_lines = 0xff ∷ 0x00 ∷ 0xfe ∷ 0x01 ∷ 0xff ∷ 0x00 ∷ []

abbrev pub e3_grown : List ℕ
e3_grown = 0xff ∷ 0x00 ∷ 0xff ∷ 0x00 ∷ 0xff ∷ 0x02 ∷ 0xfe ∷ 0x01 ∷ 0xff ∷ 0x03 ∷ 0xfe ∷ 0x04 ∷ 0xff ∷ 0x00 ∷ 0xfe ∷ 0x02 ∷ 0xff ∷ 0x01 ∷ 0x01 ∷ []

abbrev pub e5 : List ℕ
e5 = 0xff ∷ 0x00 ∷ 0xff ∷ 0xff ∷ 0x01 ∷ 0x02 ∷ 0xff ∷ 0x02 ∷ 0xfe ∷ 0x01 ∷ 0x02 ∷ []

-- the term of condition 11: 509 bytes, 01 fd in a field's head
abbrev pub outgrowing : List ℕ
outgrowing = 0xff ∷ 0xff ∷ 0x00 ∷ 0x00 ∷ abstractors 252 (0xfd ∷ [])

-- the files of E2, of τ, and of ⟨τ⟩τ, which is refused with 8
abbrev pub e2_file : List ℕ
e2_file = file 9 e2 group

abbrev pub tau_file : List ℕ
tau_file = file 1 (0x00 ∷ []) []

abbrev pub waiting_file : List ℕ
waiting_file = file 3 (0xfe ∷ 0x00 ∷ 0x00 ∷ []) []

-- request (g): [τ][[1]τ]⟨1⟩[[τ]τ]τ, whose bodies are [2]τ and [τ]τ
abbrev pub differing_file : List ℕ
differing_file = file 13 (0xff ∷ 0x00 ∷ 0xff ∷ 0xff ∷ 0x01 ∷ 0x00 ∷ 0xfe ∷ 0x01 ∷ 0xff ∷ 0xff ∷ 0x00 ∷ 0x00 ∷ 0x00 ∷ []) group

-- [τ]⟨1⟩[1]1 and [τ]⟨1⟩[1]2
abbrev pub paired : ℕ → List ℕ
paired k = 0xff ∷ 0x00 ∷ 0xfe ∷ 0x01 ∷ 0xff ∷ 0x01 ∷ k ∷ []

-- request (a): τ below 31 applicators, used 63 times; [τ]253 and τ below 253 abstractors, each used as the definition of 1
abbrev pub deep : List ℕ
deep = times 31 (0xfe ∷ []) ++ times 32 (0x00 ∷ [])

abbrev pub defined : List ℕ → List ℕ → List ℕ
defined k s = 0xfe ∷ (k ++ 0xff ∷ 0x00 ∷ s)

-- [τ][1]⟨1⟩[⟨2⟩[τ]1]1: the outer U is the type of its K once its own pair is gone
abbrev pub inner : List ℕ
inner = 0xff ∷ 0x00 ∷ 0xff ∷ 0x01 ∷ 0xfe ∷ 0x01 ∷ 0xff ∷ 0xfe ∷ 0x02 ∷ 0xff ∷ 0x00 ∷ 0x01 ∷ 0x01 ∷ []

-- request (d): n times ⟨τ⟩, n times [τ], and then k: the first applicator and the last abstractor are a couple; so are those of
-- [τ]⟨1⟩⟨τ⟩[τ][τ]1, and the first applicator and the second [τ] of [τ]⟨1⟩⟨1⟩[1][τ][τ]4
abbrev pub nested : ℕ → ℕ → List ℕ
nested n k = applicators n (abstractors n (k ∷ []))

abbrev pub around : List ℕ
around = 0xff ∷ 0x00 ∷ 0xfe ∷ 0x01 ∷ 0xfe ∷ 0x00 ∷ 0xff ∷ 0x00 ∷ 0xff ∷ 0x00 ∷ 0x01 ∷ []

abbrev pub before_more : List ℕ
before_more = 0xff ∷ 0x00 ∷ 0xfe ∷ 0x01 ∷ 0xfe ∷ 0x01 ∷ 0xff ∷ 0x01 ∷ 0xff ∷ 0x00 ∷ 0xff ∷ 0x00 ∷ 0x04 ∷ []

-- the train of 003, section 3.3: A A A T A T T A A A A T A T T T T T, each A as ⟨τ⟩ and each T as [τ], where a = 3, t = 2, b = 4 and u = 5
abbrev pub word : (a t b u : ℕ) → List ℕ
word a t b u = applicators a (abstractors 1 (applicators 1 (abstractors t (applicators b (abstractors 1 (applicators 1 (abstractors u (0x00 ∷ []))))))))

-- ⟨τ⟩⟨τ⟩[τ][1]τ: the outer couple's U uses the inner one's variable
abbrev pub used_between : List ℕ
used_between = 0xfe ∷ 0x00 ∷ 0xfe ∷ 0x00 ∷ 0xff ∷ 0x00 ∷ 0xff ∷ 0x01 ∷ 0x00 ∷ []

-- [τ][[τ]1]⟨2⟩⟨1⟩[[τ]1]1: with the type of the second K the applicator ⟨2⟩ waits
abbrev pub waiting : List ℕ
waiting = 0xff ∷ 0x00 ∷ 0xff ∷ 0xff ∷ 0x00 ∷ 0x01 ∷ 0xfe ∷ 0x02 ∷ 0xfe ∷ 0x01 ∷ 0xff ∷ 0xff ∷ 0x00 ∷ 0x01 ∷ 0x01 ∷ []

-- [τ][1]⟨2⟩⟨2⟩[τ][τ]⟨3⟩[1]1: the frame has a pair of wagons that are no neighbours
abbrev pub far_in_frame : List ℕ
far_in_frame = 0xff ∷ 0x00 ∷ 0xff ∷ 0x01 ∷ 0xfe ∷ 0x02 ∷ 0xfe ∷ 0x02 ∷ 0xff ∷ 0x00 ∷ 0xff ∷ 0x00 ∷ 0xfe ∷ 0x03 ∷ 0xff ∷ 0x01 ∷ 0x01 ∷ []

-- [τ][1][[2][3]τ]⟨⟨2⟩⟨2⟩1⟩[τ]1: the type of K is ⟨2⟩⟨2⟩[3][4]τ, two wagons of K and two of the U of 1
abbrev pub typed_train : List ℕ
typed_train = 0xff ∷ 0x00 ∷ 0xff ∷ 0x01 ∷ 0xff ∷ 0xff ∷ 0x02 ∷ 0xff ∷ 0x03 ∷ 0x00 ∷ 0xfe ∷ 0xfe ∷ 0x02 ∷ 0xfe ∷ 0x02 ∷ 0x01 ∷ 0xff ∷ 0x00 ∷ 0x01 ∷ []

-- [τ][1]⟨1⟩[⟨2⟩⟨2⟩[τ][τ]1]τ: the outer U is the type of its K once both its couples are gone
abbrev pub inner_couples : List ℕ
inner_couples = 0xff ∷ 0x00 ∷ 0xff ∷ 0x01 ∷ 0xfe ∷ 0x01 ∷ 0xff ∷ 0xfe ∷ 0x02 ∷ 0xfe ∷ 0x02 ∷ 0xff ∷ 0x00 ∷ 0xff ∷ 0x00 ∷ 0x01 ∷ 0x00 ∷ []

abbrev pub table : List Example
table =
    -- E1: its degree, and its type
    examine_gives e1 0 0 3
    ∷ type_gives e1 (0xaa ∷ 0xaa ∷ 0xaa ∷ 0xaa ∷ 0xaa ∷ 0xaa ∷ []) (answer 0 0 5 (0xff ∷ 0x00 ∷ 0xff ∷ 0x01 ∷ 0x02 ∷ 0xaa ∷ []))
    ∷ check_gives (file 5 e1 []) 0 0 0 3
    -- E2 to E5
    ∷ check_gives (file 9 e2 group) 0 0 1 3
    ∷ check_gives (file 13 e3 (group ++ right_step 0x01)) 0 0 2 3
    ∷ check_gives (file 13 e3 (group ++ group)) 12 8 1 3
    ∷ check_gives (file 11 e5 group) 0 0 1 3
    -- E6 to E9: the examples of 7, 8, 9 and 13
    ∷ check_gives (file 5 (0xfe ∷ 0x00 ∷ 0xff ∷ 0x00 ∷ 0x00 ∷ []) []) 7 0 0 1
    ∷ check_gives (file 3 (0xfe ∷ 0x00 ∷ 0x00 ∷ []) []) 8 0 0 1
    ∷ check_gives (file 9 e2 []) 9 4 0 3
    ∷ check_gives (file 1 (0x00 ∷ []) group) 13 4 0 1
    -- the example of 11, in a check and as a written result
    ∷ check_gives (0x01 ∷ 0x01 ∷ 0xfd ∷ outgrowing) 11 508 0 2
    ∷ type_gives outgrowing [] (answer 11 0 0 [])
    -- the examples of 10 and 12
    ∷ check_gives (file 9 e2 (group_of 3 (0x09 ∷ 0x00 ∷ 0x00 ∷ []) 0 [])) 10 4 0 3
    ∷ check_gives (file 9 (0xff ∷ 0x00 ∷ 0xff ∷ 0x01 ∷ 0xfe ∷ 0x01 ∷ 0xff ∷ 0x00 ∷ 0x01 ∷ []) group) 12 4 0 2
    -- the example of 14; no type; the example of 3
    ∷ type_gives (0xff ∷ 0x00 ∷ 0x01 ∷ []) (0xaa ∷ 0xaa ∷ []) (answer 14 0 0 (0xaa ∷ 0xaa ∷ []))
    ∷ type_gives (0x00 ∷ []) (0xaa ∷ []) (nothing (0xaa ∷ []))
    ∷ type_gives (0xff ∷ 0x00 ∷ []) (0xaa ∷ []) (answer 3 2 0 (0xaa ∷ []))
    -- a local step lifts K past the pair's own abstractor; a pair is not removed while its variable is used
    ∷ step_gives (paired 0x01) 1 6 (0xaa ∷ 0xaa ∷ 0xaa ∷ 0xaa ∷ 0xaa ∷ 0xaa ∷ 0xaa ∷ 0xaa ∷ []) (answer 0 0 7 (0xff ∷ 0x00 ∷ 0xfe ∷ 0x01 ∷ 0xff ∷ 0x01 ∷ 0x02 ∷ 0xaa ∷ []))
    ∷ step_gives (paired 0x01) 2 2 [] (answer 10 0 0 [])
    ∷ step_gives (paired 0x02) 2 2 (0xaa ∷ 0xaa ∷ 0xaa ∷ 0xaa ∷ []) (answer 0 0 3 (0xff ∷ 0x00 ∷ 0x01 ∷ 0xaa ∷ []))
    ∷ step_gives (paired 0x02) 2 2 (0xaa ∷ 0xaa ∷ []) (answer 14 0 0 (0xaa ∷ 0xaa ∷ []))
    ∷ step_gives (paired 0x01) 9 0 (0xaa ∷ []) (answer 10 0 0 (0xaa ∷ []))
    -- request (a), A1: only the last form is measured, so this is 14 and not 11; a form on the way has 4,097 bytes
    ∷ step_gives (defined deep (times 62 (0xfe ∷ 0x01 ∷ []) ++ 0x01 ∷ [])) 3 0 [] (answer 14 0 0 [])
    -- A2: and so for scopes; a local step would be 11
    ∷ step_gives (abstractors 252 (defined (0xff ∷ 0x00 ∷ 0xfd ∷ []) (0x01 ∷ []))) 3 504 (times 507 (0xaa ∷ [])) (answer 0 0 507 (abstractors 252 (0xff ∷ 0x00 ∷ 0xfd ∷ [])))
    ∷ step_gives (abstractors 252 (defined (0xff ∷ 0x00 ∷ 0xfd ∷ []) (0x01 ∷ []))) 1 510 [] (answer 11 0 0 [])
    ∷ step_gives (defined (abstractors 253 (0x00 ∷ [])) (0x01 ∷ [])) 3 0 (times 507 (0xaa ∷ [])) (answer 0 0 507 (abstractors 253 (0x00 ∷ [])))
    -- A3: in the body only
    ∷ check_gives (file 13 e3 (group ++ right_step 0x03)) 10 8 1 3
    -- A4: no use; one use; a use inside the K of a later wagon; the pair's own U keeps its own
    ∷ step_gives (defined (0x00 ∷ []) (0x00 ∷ [])) 3 0 (0xaa ∷ 0xaa ∷ []) (answer 0 0 1 (0x00 ∷ 0xaa ∷ []))
    ∷ step_gives (paired 0x01) 3 2 (0xaa ∷ 0xaa ∷ 0xaa ∷ 0xaa ∷ []) (answer 0 0 3 (0xff ∷ 0x00 ∷ 0x01 ∷ 0xaa ∷ []))
    ∷ step_gives (0xff ∷ 0x00 ∷ 0xfe ∷ 0x01 ∷ 0xff ∷ 0x01 ∷ 0xfe ∷ 0x01 ∷ 0x01 ∷ []) 3 2 (times 6 (0xaa ∷ [])) (answer 0 0 5 (0xff ∷ 0x00 ∷ 0xfe ∷ 0x01 ∷ 0x01 ∷ 0xaa ∷ []))
    -- A5: past the body; not at an applicator; no partner; and 14, tested last
    ∷ step_gives (defined (0x00 ∷ []) (0x00 ∷ [])) 3 5 (0xaa ∷ []) (answer 10 0 0 (0xaa ∷ []))
    ∷ step_gives (defined (0x00 ∷ []) (0x00 ∷ [])) 3 2 (0xaa ∷ []) (answer 10 0 0 (0xaa ∷ []))
    ∷ step_gives (0xfe ∷ 0x00 ∷ 0xfe ∷ 0x00 ∷ 0x00 ∷ []) 3 0 (0xaa ∷ []) (answer 10 0 0 (0xaa ∷ []))
    ∷ step_gives (paired 0x01) 3 2 (0xaa ∷ 0xaa ∷ []) (answer 14 0 0 (0xaa ∷ 0xaa ∷ []))
    -- in a file: accepted, where it was 10 before
    ∷ check_gives (file 13 inner (group ++ right_step 0x03)) 0 0 2 3
    ∷ former_gives (base pairs) (file 13 inner (group ++ right_step 0x03)) 10 4 1 3
    -- request (b), B1: three blanks, t, 68 blanks and a line feed, the rest of the buffer as it was; a byte too few
    ∷ print_gives (0x00 ∷ []) (times 100 (0xaa ∷ [])) (answer 0 0 73 (times 3 (0x20 ∷ []) ++ 0x74 ∷ times 68 (0x20 ∷ []) ++ 0x0a ∷ times 27 (0xaa ∷ [])))
    ∷ print_gives (0x00 ∷ []) (times 73 (0xaa ∷ [])) (answer 0 0 73 (times 3 (0x20 ∷ []) ++ 0x74 ∷ times 68 (0x20 ∷ []) ++ 0x0a ∷ []))
    ∷ print_gives (0x00 ∷ []) (times 72 (0xaa ∷ [])) (answer 14 0 0 (times 72 (0xaa ∷ [])))
    -- B2: the term's own refusals come before 14
    ∷ print_gives (0x01 ∷ []) [] (answer 5 0 0 [])
    ∷ print_gives (0xff ∷ 0x00 ∷ []) (0xaa ∷ []) (answer 3 2 0 (0xaa ∷ []))
    ∷ print_gives (abstractors 254 (0x00 ∷ [])) [] (answer 6 506 0 [])
    -- and there is no 11: 253 abstractors and an index take 29 lines, 2,117 bytes
    ∷ print_gives (abstractors 253 (0xfd ∷ [])) [] (answer 14 0 0 [])
    -- request (d), D1: a local step at the variable of a couple, with one couple between, and with one in another
    ∷ step_gives (nested 2 0x01) 1 8 (times 10 (0xaa ∷ [])) (answer 0 0 9 (nested 2 0x00 ++ 0xaa ∷ []))
    ∷ step_gives (nested 3 0x01) 1 12 (times 14 (0xaa ∷ [])) (answer 0 0 13 (nested 3 0x00 ++ 0xaa ∷ []))
    -- of the couples of 003's train, removed: the first A and the last T; the second A and the third T; the fifth A and the last T but one
    ∷ step_gives (word 3 2 4 5) 2 0 (times 34 (0xaa ∷ [])) (answer 0 0 33 (word 2 2 4 4 ++ 0xaa ∷ []))
    ∷ step_gives (word 3 2 4 5) 2 2 (times 34 (0xaa ∷ [])) (answer 0 0 33 (word 2 1 4 5 ++ 0xaa ∷ []))
    ∷ step_gives (word 3 2 4 5) 2 14 (times 34 (0xaa ∷ [])) (answer 0 0 33 (word 3 2 3 4 ++ 0xaa ∷ []))
    -- D2: it lifts K past both abstractors
    ∷ step_gives around 1 10 (times 11 (0xaa ∷ [])) (answer 0 0 11 (0xff ∷ 0x00 ∷ 0xfe ∷ 0x01 ∷ 0xfe ∷ 0x00 ∷ 0xff ∷ 0x00 ∷ 0xff ∷ 0x00 ∷ 0x03 ∷ []))
    -- D3: what stands between stays, and what follows falls by 1; and so for kind 3, whose K is lifted past the abstractor between
    ∷ step_gives (nested 2 0x02) 2 0 (times 6 (0xaa ∷ [])) (answer 0 0 5 (0xfe ∷ 0x00 ∷ 0xff ∷ 0x00 ∷ 0x01 ∷ 0xaa ∷ []))
    ∷ step_gives before_more 2 2 (times 10 (0xaa ∷ [])) (answer 0 0 9 (0xff ∷ 0x00 ∷ 0xfe ∷ 0x01 ∷ 0xff ∷ 0x01 ∷ 0xff ∷ 0x00 ∷ 0x03 ∷ 0xaa ∷ []))
    ∷ step_gives around 3 2 (times 8 (0xaa ∷ [])) (answer 0 0 7 (0xff ∷ 0x00 ∷ 0xfe ∷ 0x00 ∷ 0xff ∷ 0x00 ∷ 0x02 ∷ 0xaa ∷ []))
    -- D4: in the body only, so that ⟨2⟩ is no partner; the frame's pairs are those that they were
    ∷ check_gives (file 15 waiting (group_of 3 (0x01 ∷ 0x00 ∷ 0x02 ∷ []) 3 (0x01 ∷ 0x00 ∷ 0x02 ∷ []) ++ group)) 10 8 0 3
    ∷ check_gives (file 17 far_in_frame (group ++ group ++ right_step 0x01)) 0 0 3 3
    ∷ former_gives (full pairs) (file 17 far_in_frame (group ++ group ++ right_step 0x01)) 0 0 3 3
    -- D5: nothing left to match; a variable used between; kind 3 at it, and a removal around it
    ∷ step_gives (0xfe ∷ 0x00 ∷ 0xfe ∷ 0x00 ∷ 0xff ∷ 0x00 ∷ 0x00 ∷ []) 2 0 (0xaa ∷ []) (answer 10 0 0 (0xaa ∷ []))
    ∷ step_gives used_between 2 2 (0xaa ∷ []) (answer 10 0 0 (0xaa ∷ []))
    ∷ step_gives used_between 3 2 (times 6 (0xaa ∷ [])) (answer 0 0 5 (0xfe ∷ 0x00 ∷ 0xff ∷ 0x00 ∷ 0x00 ∷ 0xaa ∷ []))
    ∷ step_gives used_between 2 0 (times 6 (0xaa ∷ [])) (answer 0 0 5 (0xfe ∷ 0x00 ∷ 0xff ∷ 0x00 ∷ 0x00 ∷ 0xaa ∷ []))
    -- D6: the first wagon of K matches the last of the copied U; two left removals at 0
    ∷ check_gives (file 19 typed_train (group ++ group ++ group_of 6 (twice 0x02) 0 [])) 0 0 3 2
    ∷ former_gives (full pairs) (file 19 typed_train (group ++ group ++ group_of 6 (twice 0x02) 0 [])) 10 10 2 2
    -- D7: accepted, where it was 10 before
    ∷ check_gives (file 17 inner_couples (group ++ group ++ group_of 0 [] 6 (twice 0x03))) 0 0 3 1
    ∷ former_gives (full pairs) (file 17 inner_couples (group ++ group ++ group_of 0 [] 6 (twice 0x03))) 10 4 2 1
    -- request (e), E1: how many files, and the comparisons in all
    ∷ set_gives (in_set 18 e2_file ++ in_set 18 e2_file) 2 0 0 2 0
    -- E2: a head cut short after a whole field; no field; a head, and a body, cut short
    ∷ set_gives (in_set 4 tau_file ++ 0x06 ∷ []) 0 16 7 0 0
    ∷ set_gives [] 0 16 0 0 0
    ∷ set_gives (0x05 ∷ 0x00 ∷ []) 0 16 0 0 0
    ∷ set_gives (in_set 5 tau_file) 0 16 0 0 0
    -- E3: another tag, met before the file before it is checked
    ∷ set_gives (in_set 0 [] ++ 0x06 ∷ 0x00 ∷ 0x00 ∷ []) 0 16 3 0 0
    -- E4: the empty file
    ∷ set_gives (in_set 4 tau_file ++ in_set 0 []) 1 1 0 0 0
    -- E5: a refused file shows its own places and count, whatever came before it
    ∷ set_gives (in_set 18 e2_file ++ in_set 24 (file 9 e2 (group ++ group))) 1 13 18 1 3
    -- and of two that are refused, the first
    ∷ set_gives (in_set 18 e2_file ++ in_set 6 waiting_file ++ in_set 0 []) 1 8 0 0 1
    -- request (g), G1: both bodies, and where they differ; bytes past them keep their values. The first is condition 12's example
    ∷ explain_gives (file 9 (0xff ∷ 0x00 ∷ 0xff ∷ 0x01 ∷ 0xfe ∷ 0x01 ∷ 0xff ∷ 0x00 ∷ 0x01 ∷ []) group) (0xaa ∷ 0xaa ∷ []) (0xaa ∷ []) 12 4 0 2 1 1 0 (0x02 ∷ 0xaa ∷ []) (0x00 ∷ [])
    ∷ explain_gives differing_file (times 4 (0xaa ∷ [])) (times 3 (0xaa ∷ [])) 12 6 0 1 3 3 1 (0xff ∷ 0x02 ∷ 0x00 ∷ 0xaa ∷ []) (0xff ∷ 0x00 ∷ 0x00 ∷ [])
    -- G2: either buffer short, and neither written
    ∷ explain_gives differing_file (times 4 (0xaa ∷ [])) (times 2 (0xaa ∷ [])) 14 0 0 1 0 0 0 (times 4 (0xaa ∷ [])) (times 2 (0xaa ∷ []))
    ∷ explain_gives differing_file (times 2 (0xaa ∷ [])) (times 3 (0xaa ∷ [])) 14 0 0 1 0 0 0 (times 2 (0xaa ∷ [])) (times 3 (0xaa ∷ []))
    -- G3: kind, place, byte, no partner, on the left; still used, byte, and byte at the third step, on the right
    ∷ tells (file 9 e2 (group_of 3 (0x09 ∷ 0xff ∷ 0xff ∷ []) 0 [])) 10 4 0 3 0 0 1
    ∷ tells (file 9 e2 (group_of 3 (0x01 ∷ 0x00 ∷ 0x01 ∷ []) 0 [])) 10 4 0 3 0 0 2
    ∷ tells (file 9 e2 (group_of 3 (0x02 ∷ 0x00 ∷ 0x00 ∷ []) 0 [])) 10 4 0 3 0 0 3
    ∷ tells (file 9 e2 (group_of 3 (0x01 ∷ 0x00 ∷ 0x00 ∷ []) 0 [])) 10 4 0 3 0 0 4
    ∷ tells (file 13 inner (group ++ right_step 0x02)) 10 4 1 3 1 0 5
    ∷ tells (file 13 inner (group ++ group_of 0 [] 3 (0x01 ∷ 0x00 ∷ 0x03 ∷ []))) 10 4 1 3 1 0 3
    ∷ tells (file 13 inner (group ++ group_of 0 [] 9 (0x01 ∷ 0x00 ∷ 0x04 ∷ twice 0x02))) 10 4 1 3 1 2 3
    -- G4: how many wait; G5: the four numbers alone
    ∷ tells (file 5 (applicators 2 (0x00 ∷ [])) []) 8 2 0 1 2 0 0
    ∷ tells e2_file 0 0 1 3 0 0 0
    ∷ tells [] 1 0 0 0 0 0 0
    -- request (h): the lines [τ]⟨1⟩[τ], and put before E3, whose bytes and groups follow theirs as they stand
    ∷ check_gives (file 7 (new_lines ++ 0x00 ∷ []) group) 0 0 1 1
    ∷ check_gives (file 19 (new_lines ++ e3) (group ++ (group ++ right_step 0x01))) 0 0 3 3
    -- E3 with the lines [τ][2] between its own two, and the second made a pair: what follows is lifted past them, its steps stay
    ∷ check_gives (file 19 e3_grown (group ++ (group ++ right_step 0x01))) 0 0 3 3
    ∷ []

-- One fact: each call gives its answer.
pub record Answered : Type 0 where
  pub answered : map (λ e. answer_to e.call) table ≡ map (λ e. e.gives) table
