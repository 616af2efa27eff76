-- How statements inside a transaction join.
use Rattle.std.proofs.Common.{refl, ◌∙◌}
use Rattle.sqlite.specs.State.{State}
use Rattle.tables.specs.Rows.{Tables, Changes}

pub changes_then : (a b c : State) (f g : Tables → Tables) → Changes a b f → Changes b c g → Changes a c (λ t. g (f t))
changes_then a b c f g p q = record {
  held = λ t was. q.held (f t) (p.held t was);
  shown = record {
    was_open = p.shown.was_open;
    is_open = q.shown.is_open;
    now_is = refl;
    committed_is = q.shown.committed_is ∙ p.shown.committed_is;
    mode = q.shown.mode;
  };
}
