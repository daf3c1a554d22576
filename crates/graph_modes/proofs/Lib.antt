mod Modes
