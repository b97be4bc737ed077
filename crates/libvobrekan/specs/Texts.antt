-- What an answer says to a person.
use Rattle.std.specs.Prelude.{ℕ, ◌==◌, ◌^◌, nat_lt, if◌then◌else◌, List, codes, Option, Some, None, option_map}
use Rattle.mem_base.specs.declared.map.ids.RegionId.{RegionId}
use Rattle.mem_base.specs.declared.map.ids.WatcherId.{WatcherId}
use Rattle.mem_base.specs.map.PassIds.{PassId}
use Rattle.mem_base.specs.map.Limits.{most_passes}
use Rattle.mem_base.specs.declared.map.refusals.What.{What}
use Rattle.mem_base.specs.declared.map.refusals.What.TheVariants as what
use Rattle.mem_base.specs.declared.map.refusals.User.{User}
use Rattle.mem_base.specs.declared.map.refusals.User.TheVariants as user
use Rattle.mem_base.specs.declared.map.refusals.Which.{Which}
use Rattle.mem_base.specs.declared.map.refusals.Which.TheVariants as which
use Rattle.mem_base.specs.declared.map.refusals.Refusal.{Refusal}
use Rattle.mem_base.specs.declared.map.refusals.Refusal.TheVariants as refusal
use Rattle.mem_base.specs.Texts.{text_of_refusal}
use Rattle.libvobrekan.specs.declared.answers.Answer.{Answer}
use Rattle.libvobrekan.specs.Arguments.{listener_at, pass_at, region_at, space_at}

abbrev pub watcher_at : ℕ → WatcherId
watcher_at number = record { 0 = number }

-- a number of 32 bits
abbrev pub id_in : ℕ → Option ℕ
id_in value = if nat_lt value (2 ^ 32) then Some value else None

-- the pass of a number
abbrev pub pass_in : ℕ → Option PassId
pass_in value = if nat_lt value most_passes then Some (pass_at value) else None

-- a refusal that names the region of a number
abbrev pub region_in : (RegionId → Refusal) → ℕ → Option Refusal
region_in refuse value = option_map (λ n. refuse (region_at n)) (id_in value)

-- the thing of a sort and a number
abbrev pub what_in : ℕ → ℕ → Option What
what_in sort value =
    if sort == 0 then option_map (λ n. what.Region (region_at n)) (id_in value) else
    (if sort == 1 then option_map (λ n. what.Space (space_at n)) (id_in value) else
    (if sort == 2 then option_map (λ n. what.Listener (listener_at n)) (id_in value) else
    (if sort == 3 then option_map (λ n. what.Watcher (watcher_at n)) (id_in value) else
    (if sort == 4 then Some (what.Entry value) else (if sort == 5 then Some (what.Event value) else None)))))

-- who uses a region
abbrev pub user_in : ℕ → ℕ → Option User
user_in sort value =
    if sort == 0 then option_map (λ n. user.Region (region_at n)) (id_in value) else
    (if sort == 1 then option_map (λ n. user.Space (space_at n)) (id_in value) else None)

-- the count of a number
abbrev pub limit_in : ℕ → Option Which
limit_in sort =
    if sort == 0 then Some which.Regions else
    (if sort == 1 then Some which.Made else
    (if sort == 2 then Some which.Spaces else
    (if sort == 3 then Some which.Listeners else
    (if sort == 4 then Some which.Entries else
    (if sort == 5 then Some which.Events else
    (if sort == 6 then Some which.Calls else (if sort == 7 then Some which.Watchers else None)))))))

-- a refusal that names nothing
abbrev pub plain_in : ℕ → Option Refusal
plain_in code =
    if code == 9 then Some refusal.BadSize else
    (if code == 10 then Some refusal.BadOps else
    (if code == 12 then Some refusal.NoTransaction else
    (if code == 13 then Some refusal.TooNested else
    (if code == 16 then Some refusal.BadPage else
    (if code == 20 then Some refusal.EventTaken else (if code == 21 then Some refusal.Memory else None))))))

-- a refusal that names a region or a number alone
abbrev pub one_in : ℕ → ℕ → Option Refusal
one_in code value =
    if code == 3 then region_in refusal.HasContainer value else
    (if code == 4 then region_in refusal.NotChild value else
    (if code == 5 then region_in refusal.AliasParent value else
    (if code == 6 then region_in refusal.Loop value else
    (if code == 7 then option_map refusal.TooDeep (id_in value) else
    (if code == 8 then Some (refusal.TooWide value) else
    (if code == 11 then region_in refusal.WrongKind value else
    (if code == 15 then Some (refusal.PageOverlap value) else
    (if code == 18 then Some (refusal.NoBacking value) else plain_in code))))))))

-- the refusal that an answer tells of, if it tells of one
abbrev pub refusal_in : Answer → Option Refusal
refusal_in answer =
    if answer.code == 1 then option_map refusal.Unknown (what_in answer.what answer.value) else
    (if answer.code == 2 then option_map refusal.NameTaken (what_in answer.what answer.value) else
    (if answer.code == 14 then option_map refusal.InUse (user_in answer.what answer.value) else
    (if answer.code == 17 then option_map (λ w. refusal.LimitReached w answer.value) (limit_in answer.what) else
    (if answer.code == 19 then option_map (λ pass. refusal.Held pass answer.other) (pass_in answer.value) else
    one_in answer.code answer.value))))

-- what an answer says that tells of no refusal of the machine
abbrev pub text_of_code : ℕ → List ℕ
text_of_code code =
    if code == 0 then codes "done" else
    (if code == 22 then codes "an argument stands for nothing" else
    (if code == 23 then codes "the handle has no machine" else
    (if code == 24 then codes "the handle has a machine already" else
    (if code == 25 then codes "the text is no script" else
    (if code == 26 then codes "only a part of some word would be replaced" else
    (if code == 27 then codes "all virtual CPUs are handed out" else
    (if code == 28 then codes "others changed a word each time that it was tried" else
    (if code == 29 then codes "the virtual CPU is entered in no generation" else codes "this is no answer of the library"))))))))

-- what an answer says
abbrev pub text_where : Option Refusal → ℕ → List ℕ
text_where None code = text_of_code code
text_where (Some why) code = text_of_refusal why

abbrev pub text_of_answer : Answer → List ℕ
text_of_answer answer = text_where (refusal_in answer) answer.code
