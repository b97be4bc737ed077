-- The files and words that a request names.
use Rattle.std.specs.Prelude.{ℕ, List, [], Some}
use Rattle.scope_words.specs.declared.requests.Request.{Request}
use Rattle.scope_words.specs.declared.requests.Request.TheVariants.{Why, Lint, Diff, Slots, Draw, Explain, Import, Check}

abbrev pub Text : Type 0
Text = List ℕ

-- the files that a request names; the second of one that names one alone is empty
abbrev pub first_file : Request → Text
first_file (Why script space addr region) = script.now
first_file (Lint script) = script.now
first_file (Diff first second) = first.now
first_file (Slots script) = script.now
first_file (Draw script space style) = script.now
first_file (Explain what) = what.now
first_file (Import tree flat spaces) = tree.now
first_file (Check script flat) = script.now

abbrev pub second_file : Request → Text
second_file (Diff first second) = second.now
second_file (Import tree (Some flat) spaces) = flat.now
second_file (Check script flat) = flat.now
second_file _ = []

-- the words that it gives for a space, an address and a region; empty where it has none
abbrev pub space_word : Request → Text
space_word (Why script space addr region) = space.now
space_word (Draw script space style) = space.now
space_word _ = []

abbrev pub address_word : Request → Text
address_word (Why script space addr region) = addr.now
address_word _ = []

abbrev pub region_word : Request → Text
region_word (Why script space addr (Some region)) = region.now
region_word _ = []
