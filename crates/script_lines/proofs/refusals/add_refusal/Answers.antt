use Rattle.script_lines.proofs.refusals.add_refusal.Goals as goal

pub returns-in-HasContainer : goal.returns-in-HasContainer
returns-in-HasContainer c = rw c.in-HasContainer.is (rw c.region_name.ensures at c.named.ensures)

pub returns-in-NotChild : goal.returns-in-NotChild
returns-in-NotChild c = rw c.in-NotChild.is (rw c.region_name-in-NotChild.ensures at c.named-in-NotChild.ensures)

pub returns-in-TooDeep : goal.returns-in-TooDeep
returns-in-TooDeep c = rw c.in-TooDeep.is (rw c.from.ensures at c.counted.ensures)

pub returns-in-TooWide : goal.returns-in-TooWide
returns-in-TooWide c = rw c.in-TooWide.is c.counted-in-TooWide.ensures

pub returns-in-BadSize : goal.returns-in-BadSize
returns-in-BadSize c = rw c.in-BadSize.is c.text.ensures

pub returns-in-BadOps : goal.returns-in-BadOps
returns-in-BadOps c = rw c.in-BadOps.is c.text-in-BadOps.ensures

pub returns-in-WrongKind : goal.returns-in-WrongKind
returns-in-WrongKind c = rw c.in-WrongKind.is (rw c.region_name-in-WrongKind.ensures at c.named-in-WrongKind.ensures)

pub returns-in-TooNested : goal.returns-in-TooNested
returns-in-TooNested c = rw c.in-TooNested.is c.text-in-TooNested.ensures

pub returns-in-PageOverlap : goal.returns-in-PageOverlap
returns-in-PageOverlap c = rw c.in-PageOverlap.is c.placed.ensures

pub returns-in-BadPage : goal.returns-in-BadPage
returns-in-BadPage c = rw c.in-BadPage.is c.text-in-BadPage.ensures

pub returns-in-NoBacking : goal.returns-in-NoBacking
returns-in-NoBacking c = rw c.in-NoBacking.is c.counted-in-NoBacking.ensures
