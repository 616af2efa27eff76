-- An archive in which one upload was accepted and one waits whole, with a suite that has no ValidDays: its figures and their two texts.
use Rattle.std.specs.Prelude.{ℕ, List, [], ◌∷◌, ◌++◌, codes}
use Rattle.figures.specs.Families.{family, labelled, lone}
use Rattle.figures.specs.declared.family.Figure.TheVariants as figure
use Rattle.figures.specs.declared.family.Family.{Family}

abbrev pub example : List Family
example =
    family figure.Moment (lone 1467436850)
    ∷ family figure.Waiting (labelled (codes "whole") 1 ∷ labelled (codes "lacking") 0 ∷ [])
    ∷ family figure.Oldest (labelled (codes "whole") 1467436850 ∷ [])
    ∷ family figure.Verdicts (labelled (codes "0") 1 ∷ labelled (codes "1") 0 ∷ labelled (codes "2") 0 ∷ labelled (codes "3") 0 ∷ labelled (codes "4") 0 ∷ labelled (codes "5") 0 ∷ labelled (codes "6") 0 ∷ labelled (codes "7") 0 ∷ labelled (codes "8") 0 ∷ labelled (codes "9") 0 ∷ [])
    ∷ family figure.Items (labelled (codes "box") 1 ∷ [])
    ∷ family figure.Changed (labelled (codes "box") 1467436850 ∷ [])
    ∷ family figure.Until []
    ∷ family figure.Arrivals (lone 5)
    ∷ family figure.Bodies (lone 4)
    ∷ family figure.Bytes (lone 834)
    ∷ []

-- the text for Prometheus
abbrev pub example_metrics : List ℕ
example_metrics =
    codes "# HELP boqitsel_moment_timestamp_seconds Moment of this answer.\n"
    ++ codes "# TYPE boqitsel_moment_timestamp_seconds gauge\n"
    ++ codes "boqitsel_moment_timestamp_seconds 1467436850\n"
    ++ codes "# HELP boqitsel_uploads_waiting Uploads without a verdict.\n"
    ++ codes "# TYPE boqitsel_uploads_waiting gauge\n"
    ++ codes "boqitsel_uploads_waiting{state=\"whole\"} 1\n"
    ++ codes "boqitsel_uploads_waiting{state=\"lacking\"} 0\n"
    ++ codes "# HELP boqitsel_uploads_waiting_oldest_timestamp_seconds Moment of the .changes that has waited longest.\n"
    ++ codes "# TYPE boqitsel_uploads_waiting_oldest_timestamp_seconds gauge\n"
    ++ codes "boqitsel_uploads_waiting_oldest_timestamp_seconds{state=\"whole\"} 1467436850\n"
    ++ codes "# HELP boqitsel_verdicts_total Verdicts given, by number; 0 is accepted.\n"
    ++ codes "# TYPE boqitsel_verdicts_total counter\n"
    ++ codes "boqitsel_verdicts_total{verdict=\"0\"} 1\n"
    ++ codes "boqitsel_verdicts_total{verdict=\"1\"} 0\n"
    ++ codes "boqitsel_verdicts_total{verdict=\"2\"} 0\n"
    ++ codes "boqitsel_verdicts_total{verdict=\"3\"} 0\n"
    ++ codes "boqitsel_verdicts_total{verdict=\"4\"} 0\n"
    ++ codes "boqitsel_verdicts_total{verdict=\"5\"} 0\n"
    ++ codes "boqitsel_verdicts_total{verdict=\"6\"} 0\n"
    ++ codes "boqitsel_verdicts_total{verdict=\"7\"} 0\n"
    ++ codes "boqitsel_verdicts_total{verdict=\"8\"} 0\n"
    ++ codes "boqitsel_verdicts_total{verdict=\"9\"} 0\n"
    ++ codes "# HELP boqitsel_suite_items Items that the suite shows.\n"
    ++ codes "# TYPE boqitsel_suite_items gauge\n"
    ++ codes "boqitsel_suite_items{suite=\"box\"} 1\n"
    ++ codes "# HELP boqitsel_suite_changed_timestamp_seconds Date of the suite's Release.\n"
    ++ codes "# TYPE boqitsel_suite_changed_timestamp_seconds gauge\n"
    ++ codes "boqitsel_suite_changed_timestamp_seconds{suite=\"box\"} 1467436850\n"
    ++ codes "# HELP boqitsel_suite_valid_until_timestamp_seconds Valid-Until of the suite's Release.\n"
    ++ codes "# TYPE boqitsel_suite_valid_until_timestamp_seconds gauge\n"
    ++ codes "# HELP boqitsel_arrivals Files that arrived and were not cleaned.\n"
    ++ codes "# TYPE boqitsel_arrivals gauge\n"
    ++ codes "boqitsel_arrivals 5\n"
    ++ codes "# HELP boqitsel_bodies Contents of arrivals and of the pool, each once.\n"
    ++ codes "# TYPE boqitsel_bodies gauge\n"
    ++ codes "boqitsel_bodies 4\n"
    ++ codes "# HELP boqitsel_bodies_bytes Bytes of these contents.\n"
    ++ codes "# TYPE boqitsel_bodies_bytes gauge\n"
    ++ codes "boqitsel_bodies_bytes 834\n"

-- the lines of `archive status`
abbrev pub example_status : List ℕ
example_status =
    codes "moment 1467436850\n"
    ++ codes "waiting whole 1\n"
    ++ codes "waiting lacking 0\n"
    ++ codes "oldest whole 1467436850\n"
    ++ codes "verdict 0 1\n"
    ++ codes "verdict 1 0\n"
    ++ codes "verdict 2 0\n"
    ++ codes "verdict 3 0\n"
    ++ codes "verdict 4 0\n"
    ++ codes "verdict 5 0\n"
    ++ codes "verdict 6 0\n"
    ++ codes "verdict 7 0\n"
    ++ codes "verdict 8 0\n"
    ++ codes "verdict 9 0\n"
    ++ codes "items box 1\n"
    ++ codes "changed box 1467436850\n"
    ++ codes "arrivals 5\n"
    ++ codes "bodies 4\n"
    ++ codes "bytes 834\n"
