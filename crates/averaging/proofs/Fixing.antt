-- A table with a condition fixed as a diagram: readable, its ranges those of the table, and it reads the table at the fixed bit.
use Rattle.std.proofs.Common.{◌≡◌, ℕ, ◌+◌, ◌^◌, ◌<◌, Bool, true, List, length, get_or, set, pos, sym, ap, ◌∙◌, subst, arith}
use Rattle.diagram.specs.declared.conditions.After.{After}
use Rattle.diagram.specs.declared.table.Table.{Table}
use Rattle.diagram.specs.Lawful.{names, Lawful}
use Rattle.diagram.specs.Reads.{reach}
use Rattle.reduction.specs.Canonical.{both}
use Rattle.ranges.specs.declared.ends.Ends.{Ends}
use Rattle.ranges.specs.Ranges.{ends}
use Rattle.combinings.specs.Asked.{Within}
use Rattle.sources.specs.declared.input.Input.{Input}
use Rattle.sources.specs.Inputs.{seen, value, Named, Readable}
use Rattle.sources.proofs.Readables.{readable_own}
use Rattle.sources.proofs.Seeing.{seen_at}
use Rattle.averaging.specs.Averaged.{reading, Averageable, Fixes}

abbrev none : Ends
none = ends (pos 0) (pos 0)

module _ (n : ℕ) (t : Table Ends) (i : After) (b : Bool) (k : Input Ends) (is : Fixes n t i b k) where
  pub fixed_read : (bs : List Bool) → i.0 < length bs → value none k 0 bs k.table.root ≡ reading n t.leaves.now t.nodes.now t.root (set bs i.0 b)
  fixed_read bs less =
      let seen_so : seen k.fixed 0 bs ≡ set bs i.0 b = ap (λ f. seen f 0 bs) is.fixed ∙ seen_at (record { level = i.0; bit = b }) 0 i.0 bs (omega arith) less in
      ap (λ cs. get_or k.table.leaves.now (reach k.offset k.table.nodes.now 0 cs k.table.root) none) seen_so
      ∙ ap (λ ls. get_or ls (reach k.offset k.table.nodes.now 0 (set bs i.0 b) k.table.root) none) is.leaves
      ∙ ap (λ ns. get_or t.leaves.now (reach k.offset ns 0 (set bs i.0 b) k.table.root) none) is.nodes
      ∙ ap (λ o. get_or t.leaves.now (reach o t.nodes.now 0 (set bs i.0 b) k.table.root) none) is.offset
      ∙ ap (λ r. get_or t.leaves.now (reach n t.nodes.now 0 (set bs i.0 b) r) none) is.root

  module _ (can : Averageable n t.leaves.now t.nodes.now t.root) where
    pub fixed_readable : Readable k (n + n)
    fixed_readable =
        readable_own k (both n) is.offset (subst (λ ls. Lawful (both n) (length ls) k.table.nodes.now) (sym is.leaves) (subst (Lawful (both n) (length t.leaves.now)) (sym is.nodes) can.lawful))

    pub fixed_named : Named k k.table.root
    fixed_named =
        subst (λ ls. names (length ls) (length k.table.nodes.now) k.table.root ≡ true) (sym is.leaves)
        (subst (λ ns. names (length t.leaves.now) (length ns) k.table.root ≡ true) (sym is.nodes) (subst (λ r. names (length t.leaves.now) (length t.nodes.now) r ≡ true) (sym is.root) can.rooted))

    pub fixed_within : (j : ℕ) → j < length k.table.leaves.now → Within (2 ^ 41) (get_or k.table.leaves.now j none)
    fixed_within = subst (λ ls. (j : ℕ) → j < length ls → Within (2 ^ 41) (get_or ls j none)) (sym is.leaves) can.within
