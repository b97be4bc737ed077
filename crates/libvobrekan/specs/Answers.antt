-- What a call answers to C, as numbers.
use Rattle.std.specs.Prelude.{ℕ, List, length, Option, Some, None, Result, Ok, Err}
use Rattle.mem_base.specs.declared.map.calls.Applied.{Applied}
use Rattle.mem_base.specs.declared.map.calls.Applied.TheVariants.{Made, Done}
use Rattle.mem_base.specs.declared.map.refusals.What.{What}
use Rattle.mem_base.specs.declared.map.refusals.What.TheVariants as what
use Rattle.mem_base.specs.declared.map.refusals.User.{User}
use Rattle.mem_base.specs.declared.map.refusals.User.TheVariants as user
use Rattle.mem_base.specs.declared.map.refusals.Which.{Which}
use Rattle.mem_base.specs.declared.map.refusals.Which.TheVariants as which
use Rattle.mem_base.specs.declared.map.refusals.Refusal.{Refusal}
use Rattle.mem_base.specs.declared.map.refusals.Refusal.TheVariants as refusal
use Rattle.mem_base.specs.machine.Answers as machine
use Rattle.libvobrekan.specs.declared.answers.Answer.{Answer}

-- an answer, by its four numbers
abbrev pub told : ℕ → ℕ → ℕ → ℕ → Answer
told code what value other = record { code = code; what = what; value = value; other = other }

-- Codes

-- 0: done; 1 to 20 are the refusals of the machine, with the numbers that the lines of a script have
abbrev pub code_done : ℕ
code_done = 0

abbrev pub code_memory : ℕ
code_memory = 21

abbrev pub code_argument : ℕ
code_argument = 22

abbrev pub code_no_machine : ℕ
code_no_machine = 23

abbrev pub code_has_machine : ℕ
code_has_machine = 24

abbrev pub code_no_script : ℕ
code_no_script = 25

abbrev pub code_not_whole : ℕ
code_not_whole = 26

abbrev pub code_no_cpu : ℕ
code_no_cpu = 27

abbrev pub code_contended : ℕ
code_contended = 28

abbrev pub code_not_entered : ℕ
code_not_entered = 29

-- it is done, with two numbers
abbrev pub done : ℕ → ℕ → Answer
done value other = told code_done 0 value other

-- an argument has no meaning: this number of it
abbrev pub bad_argument : ℕ → Answer
bad_argument value = told code_argument 0 value 0

-- the handle has no machine, or has one already
abbrev pub no_machine : Answer
no_machine = told code_no_machine 0 0 0

abbrev pub has_machine : Answer
has_machine = told code_has_machine 0 0 0

-- a text is no script: how many bytes are said of it, and its first line at fault
abbrev pub no_script : ℕ → ℕ → Answer
no_script value line = told code_no_script 0 value line

-- a write of one word would replace only a part of some word, in the generation of this number
abbrev pub not_whole : ℕ → Answer
not_whole number = told code_not_whole 0 0 number

-- all virtual CPUs are handed out
abbrev pub no_cpu : Answer
no_cpu = told code_no_cpu 0 0 0

-- the virtual CPU is entered in no generation
abbrev pub not_entered : Answer
not_entered = told code_not_entered 0 0 0

-- of a write only this number of the first bytes are written, which ended so, in the generation of this number
abbrev pub contended : ℕ → ℕ → ℕ → Answer
contended how count number = told code_contended how count number

-- Refusals of the machine

-- the sort of thing that is named, and its number
abbrev pub sort_of : What → ℕ
sort_of (what.Region region) = 0
sort_of (what.Space space) = 1
sort_of (what.Listener listener) = 2
sort_of (what.Watcher watcher) = 3
sort_of (what.Entry offset) = 4
sort_of (what.Event offset) = 5

abbrev pub number_of : What → ℕ
number_of (what.Region region) = region.0
number_of (what.Space space) = space.0
number_of (what.Listener listener) = listener.0
number_of (what.Watcher watcher) = watcher.0
number_of (what.Entry offset) = offset
number_of (what.Event offset) = offset

abbrev pub sort_of_user : User → ℕ
sort_of_user (user.Region region) = 0
sort_of_user (user.Space space) = 1

abbrev pub number_of_user : User → ℕ
number_of_user (user.Region region) = region.0
number_of_user (user.Space space) = space.0

-- which count has a limit
abbrev pub sort_of_limit : Which → ℕ
sort_of_limit which.Regions = 0
sort_of_limit which.Made = 1
sort_of_limit which.Spaces = 2
sort_of_limit which.Listeners = 3
sort_of_limit which.Entries = 4
sort_of_limit which.Events = 5
sort_of_limit which.Calls = 6
sort_of_limit which.Watchers = 7

-- a refusal, with what it names
abbrev pub refusal_told : Refusal → Answer
refusal_told (refusal.Unknown w) = told 1 (sort_of w) (number_of w) 0
refusal_told (refusal.NameTaken w) = told 2 (sort_of w) (number_of w) 0
refusal_told (refusal.HasContainer region) = told 3 0 region.0 0
refusal_told (refusal.NotChild region) = told 4 0 region.0 0
refusal_told (refusal.AliasParent region) = told 5 0 region.0 0
refusal_told (refusal.Loop region) = told 6 0 region.0 0
refusal_told (refusal.TooDeep depth) = told 7 0 depth 0
refusal_told (refusal.TooWide weight) = told 8 0 weight 0
refusal_told refusal.BadSize = told 9 0 0 0
refusal_told refusal.BadOps = told 10 0 0 0
refusal_told (refusal.WrongKind region) = told 11 0 region.0 0
refusal_told refusal.NoTransaction = told 12 0 0 0
refusal_told refusal.TooNested = told 13 0 0 0
refusal_told (refusal.InUse u) = told 14 (sort_of_user u) (number_of_user u) 0
refusal_told (refusal.PageOverlap iova) = told 15 0 iova 0
refusal_told refusal.BadPage = told 16 0 0 0
refusal_told (refusal.LimitReached w limit) = told 17 (sort_of_limit w) limit 0
refusal_told (refusal.NoBacking words) = told 18 0 words 0
refusal_told (refusal.Held pass generation) = told 19 0 pass.0 generation
refusal_told refusal.EventTaken = told 20 0 0 0
refusal_told refusal.Memory = told code_memory 0 0 0

-- Answers of the machine

-- the number of the generation that was published; 0 where none was, since the generation at first has that number
abbrev pub published : Option ℕ → ℕ
published None = 0
published (Some number) = number

-- of a call: the region that it made, with 1 as its sort, and what it published
abbrev pub call_told : Result (Applied × Option ℕ) Refusal → Answer
call_told (Ok (Made region, number)) = told code_done 1 region.0 (published number)
call_told (Ok (Done, number)) = told code_done 0 0 (published number)
call_told (Err why) = refusal_told why

-- of a commit: what it published
abbrev pub commit_told : Result (Option ℕ) Refusal → Answer
commit_told (Ok number) = done 0 (published number)
commit_told (Err why) = refusal_told why

-- of a begin, a load, a listener that joins or leaves
abbrev pub plain_told : Result (Unit {0}) Refusal → Answer
plain_told (Ok _) = done 0 0
plain_told (Err why) = refusal_told why

-- of a reap or a harvest: how many regions were released, or how many pages were marked
abbrev pub list_told : {A : Type 0} → Result (List A) Refusal → Answer
list_told (Ok items) = done (length items) 0
list_told (Err why) = refusal_told why

-- the numbers of an answer
abbrev pub answer_told : machine.Answer → Answer
answer_told (machine.call_answer answer) = call_told answer
answer_told (machine.commit_answer answer) = commit_told answer
answer_told (machine.plain_answer answer) = plain_told answer
answer_told (machine.reap_answer answer) = list_told answer
answer_told (machine.harvest_answer answer) = list_told answer
answer_told (machine.notifier_answer value) = done value 0
answer_told (machine.journal_answer deliveries) = done (length deliveries) 0
answer_told (machine.current_answer number generation) = done number 0
