-- The program of a number: the functions of as many draws, each by the next words of one generator.
use Rattle.std.specs.Prelude.{ℕ, zero, suc, ◌+◌, ◌%◌, ◌==◌, pos, min, if◌then◌else◌, List, [], ◌∷◌, ◌++◌, map}
use Rattle.std.specs.List.{range_with_len}
use Rattle.std.specs.Fmt.{decimal}
use Rattle.rand_pcg.specs.Lcg.{Lcg, started, increment_of}
use Rattle.rand_pcg.specs.Pcg.{pcg32, multiplier_64}
use Rattle.values_undef.specs.declared.access.Order.TheVariants.{Rlx, Acq, Rel}
use Rattle.values_undef.specs.declared.arithmetic.Op.TheVariants.{Sub}
use Rattle.il_syntax.specs.declared.statement.Atom.{Atom}
use Rattle.il_syntax.specs.declared.statement.Atom.TheVariants.{Const, Reg}
use Rattle.il_syntax.specs.declared.statement.Stmt.{Stmt}
use Rattle.il_syntax.specs.declared.statement.Stmt as made
use Rattle.il_syntax.specs.declared.program.Location.{Location}
use Rattle.il_syntax.specs.declared.program.Function.{Function}
use Rattle.il_syntax.specs.declared.program.Start.{Start}
use Rattle.il_syntax.specs.declared.program.Program.{Program}

-- the generator `Lcg64Xsh32` of the number, with the stream 1000
abbrev pub generator_of : ℕ → Lcg
generator_of number = started 64 multiplier_64 number (increment_of 64 1000)

-- what its next word leaves when it is divided by n
abbrev pub drawn : ℕ → Lcg → ℕ
drawn n g = (pcg32 g).0 % n

-- the generator after it has given a word
abbrev pub after_word : Lcg → Lcg
after_word g = (pcg32 g).1

-- statements, and the generator after the words that were taken for them
pub record Drawn : Type 0 where
  pub statements : List Stmt
  pub generator : Lcg

abbrev pub constant : ℕ → Atom
constant n = Const (pos n)

-- a loop of three turns that loads x
abbrev pub three_turns : ℕ → List Stmt
three_turns x =
    made.Copy 4 (constant 3) ∷ made.While (Reg 4) (record { statements = made.Load 0 x ∷ made.Compute 4 Sub (Reg 4) (constant 1) ∷ [] }) ∷ []

-- The statements of a draw in a function whose own location is x, by the form that its first word has chosen.
-- The words after it are taken in the order in which they are named.
abbrev pub drawn_by_form : (form x : ℕ) → Lcg → Drawn
drawn_by_form form x g =
    if form == 0 then record { statements = made.Store x (constant (drawn 100 g)) ∷ []; generator = after_word g }
    else (if form == 1 then record { statements = made.Load (drawn 2 g) x ∷ []; generator = after_word g }
    else (if form == 2 then record { statements = made.Load 2 (drawn 4 g) ∷ []; generator = after_word g }
    else (if form == 3 then record { statements = made.AtomicStore Rlx (drawn 2 g) (constant (drawn 100 (after_word g))) ∷ []; generator = after_word (after_word g) }
    else (if form == 4 then record { statements = made.AtomicLoad 3 Acq (drawn 2 g) ∷ []; generator = after_word g }
    else (if form == 5 then record { statements = made.AtomicStore Rel (drawn 2 g) (constant (drawn 100 (after_word g))) ∷ []; generator = after_word (after_word g) }
    else (if form == 6 then record { statements = made.Print (constant (drawn 100 g)) ∷ []; generator = after_word g }
    else record { statements = three_turns x; generator = g }))))))

-- the statements of one draw
abbrev pub one_draw : ℕ → Lcg → Drawn
one_draw x g = drawn_by_form (drawn 8 g) x (after_word g)

-- the statements of so many draws, one after the other
unfoldable pub draws : ℕ → ℕ → Lcg → Drawn
draws zero x g = record { statements = []; generator = g }
draws (suc n) x g =
    let one = one_draw x g in
    let more = draws n x one.generator in
    record { statements = one.statements ++ more.statements; generator = more.generator }

-- a letter and a number
abbrev pub numbered : ℕ → ℕ → List ℕ
numbered letter i = letter ∷ decimal i

-- so many names of this letter
abbrev pub names_of_letter : ℕ → ℕ → List (List ℕ)
names_of_letter letter count = map (numbered letter) (range_with_len 0 count)

abbrev pub location_named : List ℕ → Location
location_named name = record { name = name; value = pos 0 }

-- `x0` and on, or `a0` and on
abbrev pub locations_of_letter : ℕ → ℕ → List Location
locations_of_letter letter count = map (λ i. location_named (numbered letter i)) (range_with_len 0 count)

-- function number j with this body: `fj`, with registers `r0` to `r4`
abbrev pub function_of : ℕ → List Stmt → Function
function_of j body =
    record { name = numbered 102 j; params = 0; registers = names_of_letter 114 5; body = record { statements = body }; result = constant 0 }

-- so many functions from number j on, each of 64 draws with its own location
unfoldable pub functions_from : ℕ → ℕ → Lcg → List Function
functions_from zero j g = []
functions_from (suc n) j g =
    let body = draws 64 (j % 4) g in
    function_of j body.statements ∷ functions_from n (j + 1) body.generator

-- thread t calls function t without arguments
abbrev pub threads_of : ℕ → List Start
threads_of count = map (λ t. let thread : Start = record { function = t; args = [] } in thread) (range_with_len 0 count)

-- The program of the number with so many functions: four locations without an order and two with, all 0, and as
-- many threads as the lesser of 4 and the number of functions.
abbrev pub generated : ℕ → ℕ → Program
generated number functions =
    record {
      na = locations_of_letter 120 4;
      atomic = locations_of_letter 97 2;
      functions = functions_from functions 0 (generator_of number);
      threads = threads_of (min 4 functions);
    }
