use Rattle.mtree_tests.proofs.published.drawn_desks_show_what_is_rendered_from_nothing.Given as goal

abbrev pub ghosts-all_right : goal.ghosts-all_right
ghosts-all_right g a = record { name = a.blank.name; parts = a.blank.parts }
