-- What the functions of this layer answer: an element, the end of a run, what contents say, a value; or a refusal.
use Rattle.std.specs.Prelude.{ℕ, Bool, Result, Ok, Err}
use Rattle.elements.specs.declared.fault.Fault.{Fault}
use Rattle.elements.specs.declared.answer.Refusal.{Refusal}
use Rattle.elements.specs.declared.answer.Header.{Header}
use Rattle.elements.specs.declared.answer.Number.{Number}
use Rattle.elements.specs.declared.answer.Read as read

-- an element, or a refusal
abbrev pub Head : Type 0
Head = Result Header Refusal

-- where a run of sealed elements ends, or a refusal
abbrev pub Run : Type 0
Run = Result ℕ Refusal

-- a service's answer: the length of what it wrote, or a refusal
abbrev pub Outcome : Type 0
Outcome = Result ℕ Refusal

-- a number, or what is wrong with contents
abbrev pub Value : Type 0
Value = Result Number Fault

-- a value and the next place, or a refusal
abbrev pub Read : Type 0
Read = Result read.Read Refusal

-- a refusal, by its fault and its place
abbrev pub refused : {A : Type 0} → Fault → ℕ → Result A Refusal
refused f p = Err (record { 0 = f; 1 = p })

-- an element, by its first tag byte and where its contents start and end
abbrev pub found : ℕ → ℕ → ℕ → Head
found t a e = Ok (record { 0 = t; 1 = a; 2 = e })

-- a number, by sign and magnitude
abbrev pub of : Bool → ℕ → Value
of n m = Ok (record { 0 = n; 1 = m })

-- a value, by sign and magnitude, and the next place
abbrev pub taken : Bool → ℕ → ℕ → Read
taken n m i = Ok (record { 0 = record { 0 = n; 1 = m }; 1 = i })
