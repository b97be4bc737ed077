-- What the lines of a block write, by what its actors have after it.
use Rattle.std.specs.Prelude.{List, [], ◌∷◌, ◌++◌, flat_map, Option, Some, None}
use Rattle.mem_base.specs.views.Listening.{Delivery}
use Rattle.mem_base.specs.machine.Passes.{pass_id}
use Rattle.mem_base.specs.machine.Records.{Clerk}
use Rattle.mem_base.specs.script.Spelling.{Text}
use Rattle.mem_base.specs.script.Named.{Names, no_names}
use Rattle.mem_base.specs.script.RaceLines.{said_text}
use Rattle.mem_base.specs.script.Tasks.{Known}
use Rattle.race_block.specs.declared.blocks.BlockActor.{BlockActor}
use Rattle.race_block.specs.declared.blocks.BlockActor.TheVariants.{Desk, Pass, Gone}
use Rattle.race_block.specs.Resolving.{tasks_in}
use Rattle.race_block.specs.Texts.{lines_said}

-- the text that was made, or else this one
abbrev pub text_or : Option Text → Text → Text
text_or (Some text) other = text
text_or None other = other

-- all that an actor's lines said: the text that a pass has made of its lines, or else by its clerk
abbrev pub actor_said : Names → List Delivery → BlockActor → Clerk → Text
actor_said names journal (Desk a) c = flat_map (said_text names journal) a.said.items
actor_said names journal (Pass a) c =
    text_or a.text (flat_map (said_text names journal) (lines_said names (pass_id a.vcpu.number) (tasks_in a.lines) a.got.items c.got))
actor_said names journal Gone c = []

abbrev pub actors_said : Names → List Delivery → List BlockActor → List Clerk → Text
actors_said names journal (a ∷ actors) (c ∷ clerks) = actor_said names journal a c ++ actors_said names journal actors clerks
actors_said names journal _ _ = []

-- the names at the end of the block: those that were kept, or that the desk has made
abbrev pub names_now : Option Known → List BlockActor → Names
names_now (Some kept) actors = kept.names
names_now None (Desk a ∷ actors) = a.known.names
names_now None _ = no_names
