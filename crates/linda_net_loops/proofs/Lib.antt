mod Wires
