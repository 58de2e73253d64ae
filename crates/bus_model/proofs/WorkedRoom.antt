-- The small runs in which a board makes room, takes a word, gives up a grant or takes its alternatives in turn,
-- computed event by event.
use Rattle.std.proofs.Common.{true, false, [], ◌∷◌, refl, inl, inr}
use Rattle.bus_signals.specs.declared.BusEvent.TheVariants.{Rd, Rfo, Uwr, Ubw, Flu}
use Rattle.moesi_state.specs.declared.State.TheVariants.{M, O, E, S, I}
use Rattle.moesi_state.specs.declared.Outcome.TheVariants.{Fixed, OnHit}
use Rattle.class_relation.specs.Actions.{answer}
use Rattle.bus_model.specs.Settling.{lines_after, driven_below, rounds_from}
use Rattle.bus_model.specs.WorkedWords.{read, write, flush, connection, says}
use Rattle.bus_model.specs.WorkedRuns.{Plays}
use Rattle.bus_model.specs.WorkedRoom.{write_through_word, write_through_word_schedule, write_through_word_events, write_through_word_end, victim_flush, victim_flush_schedule, victim_flush_events, victim_flush_end, given_up, given_up_schedule, given_up_events, given_up_end, alternation, alternation_schedule, alternation_events, alternation_end}
use Rattle.bus_model.proofs.WorkedSetups

pub write_through_word_plays :
    Plays write_through_word write_through_word_schedule write_through_word_events write_through_word_end
unfolding lines_after driven_below rounds_from
write_through_word_plays =
    record {
      fits = WorkedSetups.write_through_word_fits;
      accepted = WorkedSetups.write_through_word_accepted;
      turns = refl;
      runs = (
        (
          write 0 5,
          record { present = refl; not_raised = refl; not_granted = refl; not_connected = refl; needs = refl },
        ),
        (
          record {
            idle = refl;
            by_raised = refl;
            wins = record { competes = refl; number_highest = refl; lines_settled = refl; rounds_settled = refl };
          },
          (
            (
              write 0 5,
              record {
                present = refl;
                granted = refl;
                purpose = inl (record { line = refl; alternative = refl; room = λ h. cc });
                answers = tt;
              },
            ),
            (
              (
                connection 1 Rfo 0 (Fixed M) ([]),
                record {
                  present = refl;
                  connected = refl;
                  master = refl;
                  event = refl;
                  line = refl;
                  source = refl;
                  takers = refl;
                  states = refl;
                  done = refl;
                },
              ),
              (
                (
                  read 0,
                  record { present = refl; not_raised = refl; not_granted = refl; not_connected = refl; needs = refl },
                ),
                (
                  record {
                    idle = refl;
                    by_raised = refl;
                    wins =
                        record { competes = refl; number_highest = refl; lines_settled = refl; rounds_settled = refl };
                  },
                  (
                    (
                      read 0,
                      record {
                        present = refl;
                        granted = refl;
                        purpose = inl (record { line = refl; alternative = refl; room = λ h. cc });
                        answers = (refl, refl, tt);
                      },
                    ),
                    (
                      (
                        connection 2 Rd 0 (Fixed S) (says 1 (answer O true true false) ∷ []),
                        record {
                          present = refl;
                          connected = refl;
                          master = refl;
                          event = refl;
                          line = refl;
                          source = refl;
                          takers = refl;
                          states = refl;
                          done = refl;
                        },
                      ),
                      (
                        (
                          read 0,
                          record {
                            present = refl;
                            not_raised = refl;
                            not_granted = refl;
                            not_connected = refl;
                            needs = refl;
                          },
                        ),
                        (
                          record {
                            idle = refl;
                            by_raised = refl;
                            wins = record {
                              competes = refl;
                              number_highest = refl;
                              lines_settled = refl;
                              rounds_settled = refl;
                            };
                          },
                          (
                            (
                              read 0,
                              record {
                                present = refl;
                                granted = refl;
                                purpose = inl (record { line = refl; alternative = refl; room = λ h. cc });
                                answers = (refl, refl, (refl, refl, tt));
                              },
                            ),
                            (
                              (
                                connection 3 Rd 0 (Fixed S)
                                    (says 1 (answer O true true false) ∷ says 2 (answer S true false false) ∷ []),
                                record {
                                  present = refl;
                                  connected = refl;
                                  master = refl;
                                  event = refl;
                                  line = refl;
                                  source = refl;
                                  takers = refl;
                                  states = refl;
                                  done = refl;
                                },
                              ),
                              (
                                (
                                  write 1 8,
                                  record {
                                    present = refl;
                                    not_raised = refl;
                                    not_granted = refl;
                                    not_connected = refl;
                                    needs = refl;
                                  },
                                ),
                                (
                                  record {
                                    idle = refl;
                                    by_raised = refl;
                                    wins = record {
                                      competes = refl;
                                      number_highest = refl;
                                      lines_settled = refl;
                                      rounds_settled = refl;
                                    };
                                  },
                                  (
                                    (
                                      write 1 8,
                                      record {
                                        present = refl;
                                        granted = refl;
                                        purpose = inl (record { line = refl; alternative = refl; room = λ h. cc });
                                        answers = (refl, refl, (refl, refl, tt));
                                      },
                                    ),
                                    (
                                      (
                                        connection 2 Uwr 0 (Fixed S)
                                            (says 1 (answer O false true false) ∷ says 3 (answer I false false false)
                                            ∷ []),
                                        record {
                                          present = refl;
                                          connected = refl;
                                          master = refl;
                                          event = refl;
                                          line = refl;
                                          source = refl;
                                          takers = refl;
                                          states = refl;
                                          done = refl;
                                        },
                                      ),
                                      refl,
                                    ),
                                  ),
                                ),
                              ),
                            ),
                          ),
                        ),
                      ),
                    ),
                  ),
                ),
              ),
            ),
          ),
        ),
      );
    }

pub victim_flush_plays : Plays victim_flush victim_flush_schedule victim_flush_events victim_flush_end
unfolding lines_after driven_below rounds_from
victim_flush_plays =
    record {
      fits = WorkedSetups.victim_flush_fits;
      accepted = WorkedSetups.victim_flush_accepted;
      turns = refl;
      runs = (
        (
          write 0 1,
          record { present = refl; not_raised = refl; not_granted = refl; not_connected = refl; needs = refl },
        ),
        (
          record {
            idle = refl;
            by_raised = refl;
            wins = record { competes = refl; number_highest = refl; lines_settled = refl; rounds_settled = refl };
          },
          (
            (
              write 0 1,
              record {
                present = refl;
                granted = refl;
                purpose = inl (record { line = refl; alternative = refl; room = λ h. cc });
                answers = tt;
              },
            ),
            (
              (
                connection 1 Rfo 0 (Fixed M) ([]),
                record {
                  present = refl;
                  connected = refl;
                  master = refl;
                  event = refl;
                  line = refl;
                  source = refl;
                  takers = refl;
                  states = refl;
                  done = refl;
                },
              ),
              (
                (
                  write 4 2,
                  record { present = refl; not_raised = refl; not_granted = refl; not_connected = refl; needs = refl },
                ),
                (
                  record {
                    idle = refl;
                    by_raised = refl;
                    wins =
                        record { competes = refl; number_highest = refl; lines_settled = refl; rounds_settled = refl };
                  },
                  (
                    (
                      write 4 2,
                      record {
                        present = refl;
                        granted = refl;
                        purpose = inr
                            (record { wants = refl; victim = refl; owned = refl; event = refl; outcome = refl });
                        answers = tt;
                      },
                    ),
                    (
                      (
                        connection 1 Flu 0 (Fixed I) ([]),
                        record {
                          present = refl;
                          connected = refl;
                          master = refl;
                          event = refl;
                          line = refl;
                          source = refl;
                          takers = refl;
                          states = refl;
                          done = refl;
                        },
                      ),
                      (
                        (
                          write 4 2,
                          record {
                            present = refl;
                            not_raised = refl;
                            not_granted = refl;
                            not_connected = refl;
                            needs = refl;
                          },
                        ),
                        (
                          record {
                            idle = refl;
                            by_raised = refl;
                            wins = record {
                              competes = refl;
                              number_highest = refl;
                              lines_settled = refl;
                              rounds_settled = refl;
                            };
                          },
                          (
                            (
                              write 4 2,
                              record {
                                present = refl;
                                granted = refl;
                                purpose = inl (record { line = refl; alternative = refl; room = λ h. cc });
                                answers = tt;
                              },
                            ),
                            (
                              (
                                connection 1 Rfo 1 (Fixed M) ([]),
                                record {
                                  present = refl;
                                  connected = refl;
                                  master = refl;
                                  event = refl;
                                  line = refl;
                                  source = refl;
                                  takers = refl;
                                  states = refl;
                                  done = refl;
                                },
                              ),
                              refl,
                            ),
                          ),
                        ),
                      ),
                    ),
                  ),
                ),
              ),
            ),
          ),
        ),
      );
    }

pub given_up_plays : Plays given_up given_up_schedule given_up_events given_up_end
unfolding lines_after driven_below rounds_from
given_up_plays =
    record {
      fits = WorkedSetups.given_up_fits;
      accepted = WorkedSetups.given_up_accepted;
      turns = refl;
      runs = (
        (
          write 0 5,
          record { present = refl; not_raised = refl; not_granted = refl; not_connected = refl; needs = refl },
        ),
        (
          record {
            idle = refl;
            by_raised = refl;
            wins = record { competes = refl; number_highest = refl; lines_settled = refl; rounds_settled = refl };
          },
          (
            (
              write 0 5,
              record {
                present = refl;
                granted = refl;
                purpose = inl (record { line = refl; alternative = refl; room = λ h. cc });
                answers = tt;
              },
            ),
            (
              (
                connection 1 Rfo 0 (Fixed M) ([]),
                record {
                  present = refl;
                  connected = refl;
                  master = refl;
                  event = refl;
                  line = refl;
                  source = refl;
                  takers = refl;
                  states = refl;
                  done = refl;
                },
              ),
              (
                (
                  read 0,
                  record { present = refl; not_raised = refl; not_granted = refl; not_connected = refl; needs = refl },
                ),
                (
                  record {
                    idle = refl;
                    by_raised = refl;
                    wins =
                        record { competes = refl; number_highest = refl; lines_settled = refl; rounds_settled = refl };
                  },
                  (
                    (
                      read 0,
                      record {
                        present = refl;
                        granted = refl;
                        purpose = inl (record { line = refl; alternative = refl; room = λ h. cc });
                        answers = (refl, refl, tt);
                      },
                    ),
                    (
                      (
                        connection 2 Rd 0 (OnHit S E) (says 1 (answer O true true false) ∷ []),
                        record {
                          present = refl;
                          connected = refl;
                          master = refl;
                          event = refl;
                          line = refl;
                          source = refl;
                          takers = refl;
                          states = refl;
                          done = refl;
                        },
                      ),
                      (
                        (
                          write 0 6,
                          record {
                            present = refl;
                            not_raised = refl;
                            not_granted = refl;
                            not_connected = refl;
                            needs = refl;
                          },
                        ),
                        (
                          record {
                            idle = refl;
                            by_raised = refl;
                            wins = record {
                              competes = refl;
                              number_highest = refl;
                              lines_settled = refl;
                              rounds_settled = refl;
                            };
                          },
                          (
                            (
                              flush 0,
                              record {
                                present = refl;
                                not_raised = refl;
                                not_granted = refl;
                                not_connected = refl;
                                needs = refl;
                              },
                            ),
                            (
                              (
                                write 0 6,
                                record {
                                  present = refl;
                                  granted = refl;
                                  purpose = inl (record { line = refl; alternative = refl; room = λ h. cc });
                                  answers = (refl, refl, (refl, refl, tt));
                                },
                              ),
                              (
                                (
                                  connection 3 Rfo 0 (Fixed M)
                                      (says 1 (answer I false true false) ∷ says 2 (answer I false false false) ∷ []),
                                  record {
                                    present = refl;
                                    connected = refl;
                                    master = refl;
                                    event = refl;
                                    line = refl;
                                    source = refl;
                                    takers = refl;
                                    states = refl;
                                    done = refl;
                                  },
                                ),
                                (
                                  (
                                    read 4,
                                    record {
                                      present = refl;
                                      not_raised = refl;
                                      not_granted = refl;
                                      not_connected = refl;
                                      needs = refl;
                                    },
                                  ),
                                  (
                                    record {
                                      idle = refl;
                                      by_raised = refl;
                                      wins = record {
                                        competes = refl;
                                        number_highest = refl;
                                        lines_settled = refl;
                                        rounds_settled = refl;
                                      };
                                    },
                                    (
                                      record {
                                        present = refl;
                                        not_connected = refl;
                                        state = refl;
                                        alternative = refl;
                                        held = λ h. refl;
                                        reply = refl;
                                      },
                                      (
                                        record {
                                          idle = refl;
                                          by_raised = refl;
                                          wins = record {
                                            competes = refl;
                                            number_highest = refl;
                                            lines_settled = refl;
                                            rounds_settled = refl;
                                          };
                                        },
                                        (
                                          (
                                            read 4,
                                            record {
                                              present = refl;
                                              granted = refl;
                                              purpose = inl
                                                  (record { line = refl; alternative = refl; room = λ h. cc });
                                              answers = tt;
                                            },
                                          ),
                                          (
                                            (
                                              connection 3 Rd 1 (OnHit S E) ([]),
                                              record {
                                                present = refl;
                                                connected = refl;
                                                master = refl;
                                                event = refl;
                                                line = refl;
                                                source = refl;
                                                takers = refl;
                                                states = refl;
                                                done = refl;
                                              },
                                            ),
                                            refl,
                                          ),
                                        ),
                                      ),
                                    ),
                                  ),
                                ),
                              ),
                            ),
                          ),
                        ),
                      ),
                    ),
                  ),
                ),
              ),
            ),
          ),
        ),
      );
    }

pub alternation_plays : Plays alternation alternation_schedule alternation_events alternation_end
unfolding lines_after driven_below rounds_from
alternation_plays =
    record {
      fits = WorkedSetups.alternation_fits;
      accepted = WorkedSetups.alternation_accepted;
      turns = refl;
      runs = (
        (
          write 0 1,
          record { present = refl; not_raised = refl; not_granted = refl; not_connected = refl; needs = refl },
        ),
        (
          record {
            idle = refl;
            by_raised = refl;
            wins = record { competes = refl; number_highest = refl; lines_settled = refl; rounds_settled = refl };
          },
          (
            (
              write 0 1,
              record {
                present = refl;
                granted = refl;
                purpose = inl (record { line = refl; alternative = refl; room = λ h. cc });
                answers = tt;
              },
            ),
            (
              (
                connection 1 Uwr 0 (Fixed I) ([]),
                record {
                  present = refl;
                  connected = refl;
                  master = refl;
                  event = refl;
                  line = refl;
                  source = refl;
                  takers = refl;
                  states = refl;
                  done = refl;
                },
              ),
              (
                (
                  write 0 2,
                  record { present = refl; not_raised = refl; not_granted = refl; not_connected = refl; needs = refl },
                ),
                (
                  record {
                    idle = refl;
                    by_raised = refl;
                    wins =
                        record { competes = refl; number_highest = refl; lines_settled = refl; rounds_settled = refl };
                  },
                  (
                    (
                      write 0 2,
                      record {
                        present = refl;
                        granted = refl;
                        purpose = inl (record { line = refl; alternative = refl; room = λ h. cc });
                        answers = tt;
                      },
                    ),
                    (
                      (
                        connection 1 Ubw 0 (Fixed I) ([]),
                        record {
                          present = refl;
                          connected = refl;
                          master = refl;
                          event = refl;
                          line = refl;
                          source = refl;
                          takers = refl;
                          states = refl;
                          done = refl;
                        },
                      ),
                      refl,
                    ),
                  ),
                ),
              ),
            ),
          ),
        ),
      );
    }
