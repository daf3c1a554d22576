use Rattle.rr_files.proofs.OneReading.{Given, one_graph, one_refusal, never_both}
use Rattle.rr_files.proofs.laws.one_reading.Goals as goal

pub returns : goal.returns
returns c =
    let given : Given = record {
      one_element = c.laws_of_the_grammar.ensures.one_element;
      one_place = c.laws_of_the_grammar.ensures.one_place;
      spelled = c.laws_of_the_grammar.ensures.spelled;
      deep = c.laws_of_the_grammar.ensures.deep;
      switches = λ root. record {
        fails_one = c.one_refusal.ensures.switches root;
        says_one = c.one_list.ensures.switches root;
        apart = c.one_refusal.ensures.switches_never_both root;
      };
      types = λ tiles root. record {
        fails_one = c.one_refusal.ensures.types tiles root;
        says_one = c.one_list.ensures.types tiles root;
        apart = c.one_refusal.ensures.types_never_both tiles root;
      };
      grid = λ known es. record {
        fails_one = c.one_reading.ensures.refusal known es;
        says_one = c.one_reading.ensures.places known es;
        apart = c.one_reading.ensures.never_both known es;
      };
      locs = c.one_list-2.ensures;
      nodes = λ pins es. record {
        fails_one = c.one_reading-2.ensures.refusal pins es;
        says_one = c.one_reading-2.ensures.nodes pins es;
        apart = c.one_reading-2.ensures.never_both pins es;
      };
      edges = λ known es. record {
        fails_one = c.one_reading_of_edges.ensures.refused known es;
        says_one = c.one_reading_of_edges.ensures.said known es;
        apart = c.one_reading_of_edges.ensures.apart known es;
      };
      graph = c.one_graph.ensures.graph;
    } in
    record { graph = one_graph given; refusal = one_refusal given; never_both = never_both given }
