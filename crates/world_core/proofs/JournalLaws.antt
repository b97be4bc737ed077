-- A world whose first calls to listeners are taken out, by its parts.
use Rattle.std.proofs.Common.{◌≡◌, ℕ, List, ◌++◌, sym, subst}
use Rattle.mem_base.specs.views.Listening.{Delivery}
use Rattle.listener_set.specs.Sets.{with_journal}
use Rattle.kept_generations.specs.KeptState.{KeptState}
use Rattle.writer_desk.specs.Writers.{WriterState, writer_state}
use Rattle.world_hand.proofs.Completing.{reached_rest}
use Rattle.world_core.specs.Worlds.{Aside, world_of, IsWorld}

-- the desk with these calls in its journal
abbrev pub journal_with : List Delivery → WriterState → WriterState
journal_with calls d = writer_state d.backed (with_journal calls d.listening) d.due

pub rest_is_world : (d e : WriterState) (k : KeptState) (ws : List ℕ) (x : Aside) (first rest : List Delivery) → IsWorld d k ws x
    → d.listening.journal ≡ first ++ rest → e ≡ journal_with rest d → IsWorld e k ws x
rest_is_world d e k ws x first rest h is same = subst (λ (s : WriterState). IsWorld s k ws x) (sym same) (record {
  reached = reached_rest (world_of d k ws x) first rest is h.reached;
  current = h.current;
  number = h.number;
  ready = h.ready;
  wide = h.wide;
})
