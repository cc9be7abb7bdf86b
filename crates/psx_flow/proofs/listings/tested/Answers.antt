-- Each listing spells a tree that serves.
use Rattle.std.proofs.Common.{sym, subst}
use Rattle.psx_flow.specs.declared.kinds.Tested.TheVariants.{ReadByte, WriteByte, ReadWord, WriteWord}
use Rattle.psx_flow.specs.Tested.{ServesTested}
use Rattle.psx_flow.proofs.TestedTrees.{tree}
use Rattle.psx_flow.proofs.TestedServes.{serves}
use Rattle.psx_flow.proofs.listings.tested.Goals as goal

pub returns-in-ReadByte-clause-serves : goal.returns-in-ReadByte-clause-serves
returns-in-ReadByte-clause-serves c = subst (λ kind. ServesTested kind (tree ReadByte)) (sym c.in-ReadByte.is) (serves ReadByte)

pub returns-in-WriteByte-clause-serves : goal.returns-in-WriteByte-clause-serves
returns-in-WriteByte-clause-serves c = subst (λ kind. ServesTested kind (tree WriteByte)) (sym c.in-WriteByte.is) (serves WriteByte)

pub returns-in-ReadWord-clause-serves : goal.returns-in-ReadWord-clause-serves
returns-in-ReadWord-clause-serves c = subst (λ kind. ServesTested kind (tree ReadWord)) (sym c.in-ReadWord.is) (serves ReadWord)

pub returns-in-WriteWord-clause-serves : goal.returns-in-WriteWord-clause-serves
returns-in-WriteWord-clause-serves c = subst (λ kind. ServesTested kind (tree WriteWord)) (sym c.in-WriteWord.is) (serves WriteWord)
