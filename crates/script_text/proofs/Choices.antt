-- The form of a line's first word, from the tables that were tried one after another.
use Rattle.std.proofs.Common.{◌≡◌, ℕ, List, Option, Some, None, Result, Ok, Err, refl, sym, ap, ◌∙◌, option_map}
use Rattle.std.specs.Option.{option_or}
use Rattle.std.proofs.lemmas.Option.{none-some, same_Some}
use Rattle.mem_base.specs.declared.script.faults.Cause.{Cause}
use Rattle.mem_base.specs.declared.script.changes.MapChange.{MapChange}
use Rattle.mem_base.specs.declared.script.commands.Command.{Command}
use Rattle.mem_base.specs.declared.script.commands.Command.TheVariants as commands
use Rattle.mem_base.specs.script.Spelling.{Text}
use Rattle.mem_base.specs.script.Operands.{Form}
use Rattle.mem_base.specs.script.Forms.{changed}
use Rattle.mem_base.specs.script.Operands.{made_by}
use Rattle.mem_base.specs.script.PassForms.{pass_line}
use Rattle.script_text.specs.Reads.{Stops, chosen, tried}
use Rattle.script_text.specs.declared.stops.LineStop.{LineStop}
use Rattle.script_text.specs.declared.stops.LineStop.TheVariants.{Bad, Memory}
use Rattle.script_laws.proofs.Reading.{no_ok}

abbrev value_or : {X E : Type 0} → X → Result X E → X
value_or x (Ok y) = y
value_or x (Err e) = x

abbrev cause_or : {X E : Type 0} → E → Result X E → E
cause_or e (Ok y) = e
cause_or e (Err f) = f

made_some : {X : Type 0} (r : Result X Cause) (x : X) → made_by Some r ≡ Ok (Some x) → r ≡ Ok x
made_some (Ok y) x e = ap Ok (same_Some y x (ap (value_or (Some y)) e))
made_some (Err c) x e = no_ok e

made_err : {X Y : Type 0} (make : X → Y) (r : Result X Cause) (c : Cause) → made_by make r ≡ Err c → r ≡ Err c
made_err make (Ok y) c e = no_ok (sym e)
made_err make (Err d) c e = ap Err (ap (cause_or d) e)

-- what was found is what the form gives
pub tried_some : {X : Type 0} (o : Option (Form X)) (t : List Text) (x : X) → tried o t ≡ Ok (Some x) → chosen o t ≡ Ok x
tried_some None t x e = absurd (none-some x (ap (value_or None) e))
tried_some (Some f) t x e = made_some (f t) x e

pub tried_err : {X : Type 0} (o : Option (Form X)) (t : List Text) (c : Cause) → tried o t ≡ Err c → chosen o t ≡ Err c
tried_err None t c e = no_ok (sym e)
tried_err (Some f) t c e = made_err Some (f t) c e

pub tried_none : {X : Type 0} (o : Option (Form X)) (t : List Text) → tried o t ≡ Ok None → o ≡ None
tried_none None t e = refl
tried_none {X} (Some f) t e = by (f t) e
  where
    by : (r : Result X Cause) → made_by Some r ≡ Ok None → Some f ≡ None
    by (Ok y) e = absurd (none-some y (sym (ap (value_or (Some y)) e)))
    by (Err c) e = no_ok e

pub tried_stops : {X : Type 0} (o : Option (Form X)) (t : List Text) (stop : LineStop) → Stops stop (tried o t) → Stops stop (chosen o t)
tried_stops o t Memory h = tt
tried_stops o t (Bad c) h = tried_err o t c h

-- A desk's form, or else a change, or else a line of a pass

abbrev pub any : Option (Form Command) → Option (Form MapChange) → Option ℕ → Form Command
any desk change pass = chosen (option_or desk (option_or (option_map changed change) (option_map pass_line pass)))

pub any_desk : (a : Option (Form Command)) (b : Option (Form MapChange)) (p : Option ℕ) (t : List Text) (x : Command) → tried a t ≡ Ok (Some x) →
    any a b p t ≡ Ok x
any_desk None b p t x e = absurd (none-some x (ap (value_or None) e))
any_desk (Some f) b p t x e = tried_some (Some f) t x e

pub any_desk_stops : (a : Option (Form Command)) (b : Option (Form MapChange)) (p : Option ℕ) (t : List Text) (stop : LineStop) → Stops stop (tried a t) →
    Stops stop (any a b p t)
any_desk_stops a b p t Memory h = tt
any_desk_stops None b p t (Bad c) h = no_ok (sym h)
any_desk_stops (Some f) b p t (Bad c) h = tried_err (Some f) t c h

pub any_change : (a : Option (Form Command)) (b : Option (Form MapChange)) (p : Option ℕ) (t : List Text) (x : MapChange) → tried a t ≡ Ok None →
    tried b t ≡ Ok (Some x) → any a b p t ≡ Ok (commands.Change x)
any_change a b p t x n e = ap (λ o. any o b p t) (tried_none a t n) ∙ by b e
  where
    by : (b : Option (Form MapChange)) → tried b t ≡ Ok (Some x) → any None b p t ≡ Ok (commands.Change x)
    by None e = absurd (none-some x (ap (value_or None) e))
    by (Some f) e = ap (made_by commands.Change) (made_some (f t) x e)

pub any_change_stops : (a : Option (Form Command)) (b : Option (Form MapChange)) (p : Option ℕ) (t : List Text) (stop : LineStop) → tried a t ≡ Ok None →
    Stops stop (tried b t) → Stops stop (any a b p t)
any_change_stops a b p t Memory n h = tt
any_change_stops a b p t (Bad c) n h = ap (λ o. any o b p t) (tried_none a t n) ∙ by b h
  where
    by : (b : Option (Form MapChange)) → tried b t ≡ Err c → any None b p t ≡ Err c
    by None e = no_ok (sym e)
    by (Some f) e = ap (made_by commands.Change) (made_err Some (f t) c e)

pub any_pass : (a : Option (Form Command)) (b : Option (Form MapChange)) (p : Option ℕ) (t : List Text) → tried a t ≡ Ok None → tried b t ≡ Ok None →
    any a b p t ≡ chosen (option_map pass_line p) t
any_pass a b p t n m = ap (λ o. any o b p t) (tried_none a t n) ∙ ap (λ o. any None o p t) (tried_none b t m)
