-- The four figures by which a fault is reported: whose fault it is (layer), which refusal (number), and where (tag and place).
--     reported f    the figures of the fault f
--     line r        the report as it is printed
use Rattle.faults.specs.declared.Fault.{Fault}
use Rattle.faults.specs.declared.Fault.TheVariants.{File, Model, Call}
use Rattle.faults.specs.declared.FileFault.TheVariants.{CutShort, UnknownTag, OutOfTurn, NoRoots, BadLength, ListTooShort}
use Rattle.faults.specs.declared.ModelFault.TheVariants.{OutsideLimits, UnlawfulNode, RootNamesNothing}
use Rattle.faults.specs.declared.CallFault.TheVariants.{OutOfRange}
use Rattle.faults.specs.declared.Figures.{Figures}
use Rattle.std.specs.Prelude.{ℕ, List, ◌++◌, codes, decimal}

abbrev of : ℕ → ℕ → ℕ → ℕ → Figures
of l n t p = record { layer = l; number = n; tag = t; place = p }

abbrev pub reported : Fault → Figures
reported (File (CutShort tag place)) = of 1 1 tag place
reported (File (UnknownTag tag place)) = of 1 2 tag place
reported (File (OutOfTurn tag place)) = of 1 3 tag place
reported (File (NoRoots length)) = of 1 4 6 length
reported (File (BadLength tag place)) = of 1 5 tag place
reported (File ListTooShort) = of 1 9 0 0
reported (Model (OutsideLimits tag entry)) = of 2 6 tag entry
reported (Model (UnlawfulNode tag entry)) = of 2 7 tag entry
reported (Model (RootNamesNothing entry)) = of 2 8 6 entry
reported (Call OutOfRange) = of 3 13 0 0

-- a space, and then the number in base ten
abbrev word : ℕ → List ℕ
word n = codes " " ++ decimal n

abbrev pub line : Figures → List ℕ
line r = codes "refused" ++ (word r.layer ++ (word r.number ++ (word r.tag ++ word r.place)))
