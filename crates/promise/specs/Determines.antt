-- What it is for a promise to determine a call.
use Rattle.std.specs.Prelude.{◌≡◌}
use contract.Lifetimes.{Lfts}
use denote.Triple.Entry.{Args, Res}
use denote.Triple.Clauses.{Ended, Lasts, AtExit, at_exit}

-- a function's requires, of its arguments, and its promise, of these, what is returned, and what is found in the parameters at exit
abbrev pub Requires : Ended → Type 1
Requires f = (κs : Lfts f.signature.lifetimes) → Args f.signature κs → Type 0

abbrev pub Promise : Ended → Type 1
Promise f = (κs : Lfts f.signature.lifetimes) → Args f.signature κs → Res f.signature κs → AtExit f κs → Type 0

-- two calls with the same arguments, each keeping the promise, return the same and leave the same in all that was lent for writing
abbrev pub Determines : (f : Ended) → Requires f → Promise f → Type 0
Determines f required promised =
    (κs : Lfts f.signature.lifetimes) (a : Args f.signature κs) → required κs a → (x y : Res f.signature κs) (left other : Lasts f κs a)
    → promised κs a x (at_exit f κs a left) → promised κs a y (at_exit f κs a other) → (x ≡ y) × (left ≡ other)
